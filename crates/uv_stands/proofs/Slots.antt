-- Whether any slot is used, or holds what pends, in the memory and in the state.
use Rattle.uv_stands.proofs.ProofNames.{◌≡◌, Bool, is_some, list_any, Slot, pends_in, held_slots, Content, is_sent_to, Place, is_in_use, State, has_pending, Image, StandsFor}

pub used_there : (i : Image Place) (s : State) (b : Bool) → StandsFor i s
    → b ≡ list_any (λ (slot : Slot Content). is_some slot.content) (held_slots i.arena.memory) → is_in_use s ≡ b
used_there i s b h is = cc

pub pending_there : (i : Image Place) (s : State) (b : Bool) → StandsFor i s
    → b ≡ list_any (λ (slot : Slot Content). pends_in is_sent_to slot.content) (held_slots i.arena.memory) → has_pending s ≡ b
pending_there i s b h is = cc
