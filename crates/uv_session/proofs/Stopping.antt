-- A run up to a break, by how its next step ends.
use Rattle.uv_session.proofs.Names.{◌≡◌, ℕ, zero, suc, ◌+◌, ◌<◌, List, length, true, false, Result, Ok, Err, ap, sym, subst, ◌∙◌, arith, Event, Fault, Outcome, Break, Stop, stops, stop_of, Shown, TakesEvent, RunsTo}
use Rattle.uv_session.specs.declared.breaks.Stop.TheVariants as stop
use Rattle.uv_session.specs.Moving as run

pub at_break : (e : Event) (n : ℕ) (s t : Shown) (o : Outcome) (breaks : List Break) (k : ℕ) → 0 < n → TakesEvent s e (Ok o) t →
    breaks ≡ t.breaks → true ≡ stops breaks o.seen → k ≡ length t.standing → RunsTo e n s (Ok (stop.Break k)) t
at_break e zero s t o breaks k l h b m is = absurd (omega arith)
at_break e (suc n) s t o breaks k l h b m is = subst (λ (i : ℕ). RunsTo e (suc n) s (Ok (stop.Break i)) t) (sym is)
    (run.matches h (ap (λ (bs : List Break). stops bs o.seen) (sym (b ∙ h.same_breaks)) ∙ sym m))

pub at_end : (e : Event) (n : ℕ) (s t : Shown) (f : Fault) → 0 < n → TakesEvent s e (Err f) t → RunsTo e n s (stop_of f) t
at_end e zero s t f l h = absurd (omega arith)
at_end e (suc n) s t f l h = run.ends h

pub goes_on : (e : Event) (n m : ℕ) (s u t : Shown) (o : Outcome) (breaks : List Break) (r : Result Stop Fault) → n ≡ m + 1 →
    TakesEvent s e (Ok o) u → breaks ≡ u.breaks → false ≡ stops breaks o.seen → RunsTo e m u r t → RunsTo e n s r t
goes_on e n m s u t o breaks r is h b q more =
    let more_one : m + 1 ≡ suc m = omega arith in
    subst (λ (i : ℕ). RunsTo e i s r t) (sym (is ∙ more_one))
    (run.on h (ap (λ (bs : List Break). stops bs o.seen) (sym (b ∙ h.same_breaks)) ∙ sym q) more)

pub is_done : (e : Event) (n : ℕ) (s : Shown) → n ≡ 0 → RunsTo e n s (Ok stop.All) s
is_done e n s is = subst (λ (i : ℕ). RunsTo e i s (Ok stop.All) s) (sym is) run.all
