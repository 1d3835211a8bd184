-- Who stands on a list of a state that steps lead to is held, and no slot is at its last generation after few steps.
use Rattle.uv_generations.proofs.Names.{◌≡◌, ℕ, ◌+◌, ◌<◌, List, [], ◌∷◌, length, Some, arith, Id, Event, Content, Program, State, handle, request, held, arena_size, add-zero, fresh, goes_on, state_of, suc, subst, ◌≤◌, next, IsInSlot, IsYoung, HandleRecord, Request, elements}
use Rattle.uv_model.specs.After.{after}
use Rattle.uv_model.proofs.Counting.{Freed, IsBounded, slot_freed}
use Rattle.uv_order.proofs.Reaching.{reached}
use Rattle.uv_shift.proofs.Reached.{state_bounded}
use Rattle.uv_slots.proofs.Named.{is_there}

-- ---- how often slots were freed

goes_on_freed : (p : Program) (n : ℕ) (s : State) (es : List Event) → IsBounded n s → Freed (n + length es) (goes_on p s es).arena.slots
goes_on_freed p n s [] h = rw add-zero h.freed
goes_on_freed p n s (e ∷ es) h =
    let t = state_of s (next p s e) in
    let same : suc n + length es ≡ n + length (e ∷ es) = omega arith in
    subst (λ (m : ℕ). Freed m (goes_on p t es).arena.slots) same (goes_on_freed p (suc n) t es (state_bounded p n s e h))

after_freed : (p : Program) (es : List Event) → Freed (length es) (after p es).arena.slots
unfolding after
after_freed p es =
    let same : 0 + length es ≡ length es = omega arith in
    subst (λ (m : ℕ). Freed m (goes_on p (fresh p) es).arena.slots) same (goes_on_freed p 0 (fresh p) es (grind (arith, elements)))

held_freed : (s : State) (n : ℕ) (id : Id) (x : Content) → Freed n s.arena.slots → held s.arena.slots id ≡ Some x → id.generation ≤ n
held_freed s n id x h e =
    let k = is_there s.arena.slots id x e in
    let l = slot_freed n s.arena.slots id.slot k.slot k.there h in
    omega (arith, l, k.generation)

-- ---- who is held

handle_held : (s : State) (id : Id) (h : HandleRecord) → handle s id ≡ Some h → IsInSlot s id
handle_held s id h e = grind arith

request_held : (s : State) (id : Id) (r : Request) → request s id ≡ Some r → IsInSlot s id
request_held s id r e = grind arith

pub after_young : (p : Program) (es : List Event) → length es < (arena_size p).last_generation → IsYoung p (after p es)
after_young p es few =
    let s = after p es in
    let k = reached p es in
    record {
      timers = λ due id h. (let its = k.timers.each due id h in handle_held s id its.its its.holds);
      ready = λ id h. (let its = k.ready.each id h in handle_held s id its.its its.holds);
      watchers = λ q id h. (let its = (k.watchers q).each id h in handle_held s id its.its its.holds);
      closing = λ id h. (let its = k.closing.each id h in handle_held s id its.its its.holds);
      opened = λ id h. (let its = k.opened.each id h in request_held s id its.its its.holds);
      done = λ id h. (let its = k.done.each id h in request_held s id its.its its.holds);
      left = λ id x e. (let l = held_freed s (length es) id x (after_freed p es) e in omega (arith, l, few));
    }
