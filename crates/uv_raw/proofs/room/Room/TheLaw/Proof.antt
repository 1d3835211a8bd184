-- A `&` to the places reaches each value.
use Rattle.uv_raw.proofs.Names.{Incl-trans, meet_⊑_left, RattleType, Shares-less, of_Lends}
use denote.Param.Laws.{Laws}
use denote.Param.Shared.{copy_shared}
use denote.Struct.Field.{RawPtr-field}
use denote.Struct.Laws.{RawPtr-copy}
use mathlib.Core.List.{[], ◌++◌}
use Rattle.uv_raw.specs.contracts.room.Room as C
use Rattle.uv_raw.proofs.room.Room.TheLaw.Statement.{statement}
use Rattle.uv_raw.proofs.Shares.{room_laws, Lends-room}

pub shares : (R : RattleType) (L : Laws R) → statement R L
shares R L = of_Lends (C.struct R) (C.the_codes R.Denot R.coded) (C.the_heap R) (C.the_lent R)
    (λ d p. room_laws R L.shr_laws d.start d.places) (copy_shared RawPtr-field RawPtr-copy, tt)
    (λ M 𝓤 𝓛 d p. let l = (C.the_row R).lives in
    Lends-room 𝓛 R l (Shares-less 𝓛 R R.lives l (Incl-trans (meet_⊑_left (R.lives ++ []) _) (meet_⊑_left R.lives [])) (L.shares 𝓛)) d.start d.places)
