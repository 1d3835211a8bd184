-- A memory that was never run stands for the state in which its script begins, and each step goes on from there.
use Rattle.uv_loop.proofs.Names.{◌≡◌, ◌-◌, ℕ, [], map, refl, sym, ap, ◌∙◌, arith, ListName, fresh_image, plain_slots, id_in, Program, arena_size, Place, State, members, Content, Image, beside_lists, StandsFor, first_image}
use Rattle.uv_records.specs.declared.lists.ListName.TheVariants as name
use Rattle.uv_arena.specs.Chains.{list_of, walk}
use Rattle.uv_arena.specs.Image as arena
use Rattle.uv_model.specs.State as state

none_listed : (p : Program) (l : ListName) → members (state.fresh p) l ≡ []
none_listed p name.Ready = refl
none_listed p l = refl

no_members : (capacity last : ℕ) (l : ListName) → arena.members (fresh_image Content capacity last) l ≡ []
unfolding list_of walk
no_members capacity last l = refl

no_slots : (capacity last : ℕ) → plain_slots (fresh_image Content capacity last) ≡ record { slots = []; free = []; unused = capacity }
unfolding list_of walk
no_slots capacity last = let whole : capacity - 0 ≡ capacity = omega arith in λ l. record { slots = []; free = []; unused = whole l }

pub fresh_stands : (p : Program) → StandsFor (first_image p) (state.fresh p)
fresh_stands p =
    let capacity = (arena_size p).slots in
    let last = (arena_size p).last_generation in
    record {
      values = refl;
      slots = no_slots capacity last;
      lists = λ l. none_listed p l ∙ sym (ap (map (id_in (first_image p).arena)) (no_members capacity last l));
      timers = record { entries = []; ordered = record { ordered = tt; same = λ e. refl }; same = refl };
    }

-- the clock is no part of the rest
pub ticked : (i : Image Place) (s : State) (n m : ℕ) → n ≡ m → StandsFor i s → StandsFor (record i { clock = n }) (record s { clock = m })
ticked i s n m same h = record {
  values = λ l. record (h.values l) { clock = same l };
  slots = h.slots;
  lists = λ l.
      beside_lists s s.place s.names s.arena s.timers s.running s.time m s.next_start s.stop_flag s.idled l ∙ h.lists l;
  timers = h.timers;
}
