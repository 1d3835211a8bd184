-- Names, places and single values change: what the memory stands for then.
use Rattle.uv_stands.proofs.ProofNames.{◌≡◌, ◌+◌, ℕ, Bool, List, Some, refl, ap, ◌∙◌, Id, Var, Callback, Calls, Place, State, with_named, bound_to, Named, named, binding, calling, count_of, Image, StandsFor}
use Rattle.uv_ids.specs.declared.seen.Callback.TheVariants as callback
use Rattle.uv_model.specs.State as state
use Rattle.uv_records.specs.Names.{counted}
use Rattle.uv_stands.proofs.Lists.{beside_lists}
use Rattle.uv_stands.proofs.Single.{names_is}

-- a count after one call more
pub count_after : (k : Callback) (c : Calls) → count_of k (counted k c) ≡ count_of k c + 1
count_after callback.Handle c = refl
count_after callback.After c = refl
count_after callback.Close c = refl

-- ---- what stands then

-- other names, the same in the memory and in the state
renamed : (i : Image Place) (s : State) (xs ns : List Named) → xs ≡ ns → StandsFor i s
    → StandsFor (record i { names = xs }) (record s { names = ns })
renamed i s xs ns same h = record {
  values = λ l. record (h.values l) { names = same l };
  slots = h.slots;
  lists = λ l. beside_lists s s.place ns s.arena s.timers s.running s.time s.clock s.next_start s.stop_flag s.idled l ∙ h.lists l;
  timers = h.timers;
}

pub bound_stands : (i : Image Place) (s : State) (v : Var) (d : Id) → StandsFor i s
    → StandsFor (record i { names = binding v.0 (Some d) i.names }) (bound_to s v d)
bound_stands i s v d h = renamed i s _ _ (ap (binding v.0 (Some d)) (names_is h)) h

-- one of a name's callbacks is called
pub called_stands : (i : Image Place) (s : State) (v : Var) (k : Callback) → StandsFor i s
    → StandsFor (record i { names = calling v.0 k (count_of k (named i.names v.0).calls + 1) i.names })
    (with_named s v (record (state.named s v) { calls = counted k (state.named s v).calls }))
called_stands i s v k h = renamed i s _ _ (ap (λ ns. calling v.0 k (count_of k (named ns v.0).calls + 1) ns) (names_is h)) h

-- the place and the single values, with what each is in the state
pub valued : (i : Image Place) (s : State) (place : Place) (time clock next : ℕ) (stop idled : Bool) → StandsFor i s
    → StandsFor (record i { place = place; times = record { time = time; next_start = next }; clock = clock; stop_flag = stop; idled = idled })
    (record s { place = place; time = time; clock = clock; next_start = next; stop_flag = stop; idled = idled })
valued i s place time clock next stop idled h = record {
  values = λ l. record (h.values l) { place = place; time = time; clock = clock; next_start = next; stop_flag = stop; idled = idled };
  slots = h.slots;
  lists = λ l. beside_lists s place s.names s.arena s.timers s.running time clock next stop idled l ∙ h.lists l;
  timers = h.timers;
}

-- the loop stands elsewhere
pub placed : (i : Image Place) (s : State) (p : Place) → StandsFor i s → StandsFor (record i { place = p }) (record s { place = p })
placed i s p h = record {
  values = λ l. record (h.values l) { place = p };
  slots = h.slots;
  lists = λ l. beside_lists s p s.names s.arena s.timers s.running s.time s.clock s.next_start s.stop_flag s.idled l ∙ h.lists l;
  timers = h.timers;
}
