-- Names in another order, as a change: names that are alike may change places.
use Rattle.uv_slots.proofs.Names.{if◌then◌else◌, ◌≡◌, ◌∙◌, ℕ, suc, ◌+◌, List, [], ◌∷◌, length, drop, arith, refl, ap, sym, Option, Some, None, slice_get, slice_set, nat_lt, Id, Var, Content, State, Program, Named, named, live, live_id, unbound, lines_in, Event, Take, Finish, Tick, arena_size, held, map, option_map, unwrap_or, is_some, drop-map, slice_get-map, is_for, next_line, content_keeps, content_pends, is_used, next, place_of, arranged_slots, Comes, changed, changed_content, changed_live, changed_callback, changed_body, changed_event, Hides, IsWhole, IsExact, work_same, any_same, runs_same, next_exact, CallbackLine, Callback, times_same, next_map, changed_line}
use Rattle.uv_work.specs.declared.content.Content.TheVariants as content
use Rattle.uv_model.specs.Next as steps
use Rattle.uv_slots.proofs.Orders.{Fits, get_arranged, set_arranged}
use Rattle.uv_slots.specs.Alike.{moved_var, moved_content, by_names, AreAlike}
use Rattle.uv_alike.proofs.Mapped.{held_mapped, turns_mapped, finds_mapped, takes_mapped, frees_mapped, live_mapped}

in_range : {X : Type 0} (xs : List X) (n : ℕ) → nat_lt n (length xs) ≡ is_some (slice_get xs n)
in_range (x ∷ xs) (suc n) = grind (arith, (in_range xs n))
in_range each e1 = grind arith

module _ (o : List ℕ) where
  content_same : (x : Content) → moved_content o x ≡ changed_content (by_names o) x
  content_same (content.Handle h) = refl
  content_same (content.Request r) = refl

  live_same : (x : Option (Id × Content)) → option_map (λ (t : Id × Content). (t.0, moved_content o t.1)) x ≡ option_map (changed_live (by_names o)) x
  live_same None = refl
  live_same (Some t) = ap (λ x. Some (t.0, x)) (content_same t.1)

  fits : (p : Program) (s u : State) → AreAlike p o s → u.names ≡ s.names → Fits o u.names
  fits p s u alike same = rw same (record { order = alike.order; within = alike.within })

  named_moved : (u : State) (v : Var) → Fits o u.names → named (changed (by_names o) u) (moved_var o v) ≡ named u v
  named_moved u v fits = ap (λ x. unwrap_or x unbound) (get_arranged o u.names v.0 fits)

  hides_names : (p : Program) (s : State) → AreAlike p o s → Hides (by_names o) p s
  hides_names p s alike =
      let f = moved_content o in
      let at = fits p s s alike refl in
      record {
        same = λ a b. refl;
        finds = finds_mapped f s.arena;
        takes = λ x new e. rw (sym (content_same new)) (takes_mapped f x new s.arena);
        keeps = any_same f content_keeps (λ x. grind arith) s.arena.slots;
        pends = any_same f content_pends (λ x. grind arith) s.arena.slots;
        uses = any_same f is_used (λ x. grind arith) s.arena.slots;
        times = times_same p s;
        known = λ v. in_range (arranged_slots o s.names) (place_of o v.0) ∙ ap is_some (get_arranged o s.names v.0 at) ∙ sym (in_range s.names v.0);
        binds = λ v x e. ap (λ (n : Named). slice_set (arranged_slots o s.names) (place_of o v.0) (record n { id = Some x })) (named_moved s v at)
            ∙ set_arranged o s.names v.0 (record (named s v) { id = Some x }) at;
        lines = λ kind v n. ap (λ ls. slice_get ls n) (alike.lines kind v) ∙ slice_get-map (changed_callback (by_names o)) (lines_in p kind v) n;
        main = alike.main;
        work = work_same;
      }

  whole_names : (p : Program) (s : State) → AreAlike p o s → IsWhole (by_names o) p s
  whole_names p s alike =
      let f = moved_content o in
      let at = fits p s s alike refl in
      record {
        holds = λ x. held_mapped f s.arena.slots x ∙ ap (λ g. option_map g (held s.arena.slots x)) (λ i y. content_same y i);
        turns = λ x old new e. rw (sym (content_same new)) (turns_mapped f s.arena.slots x new);
        frees = λ x old e. frees_mapped f (arena_size p).last_generation x s.arena;
        over = λ n. refl;
        clocks = refl;
        lives = λ v. ap (λ (n : Named). live_id (changed (by_names o) s) n.id) (named_moved s v at)
            ∙ live_mapped f s (changed (by_names o) s) (named s v).id refl ∙ live_same (live s v);
        queued = λ ids. refl;
        ended = λ ids. refl;
      }

  -- ---- a step

  next_line_moved : (call number : ℕ) (lines : List CallbackLine) → next_line call number (map (changed_callback (by_names o)) lines)
      ≡ next_line call number lines
  next_line_moved call number [] = refl
  next_line_moved call number (l ∷ ls) = ap (λ x. if is_for call l.call then Some number else x) (next_line_moved call (number + 1) ls)

  body_moved : (kind : Callback) (v : Var) (call : ℕ) (x : Option ℕ) →
      steps.body_at kind (moved_var o v) call x ≡ option_map (changed_body (by_names o)) (steps.body_at kind v call x)
  body_moved kind v call None = refl
  body_moved kind v call (Some n) = refl

  exact : (p : Program) (s : State) → AreAlike p o s → IsExact (by_names o) p s
  exact p s alike = record {
    bound = λ x. x;
    get = λ u v same. named_moved u v (fits p s u alike same);
    set = λ u v x same. ap (λ ns. record (changed (by_names o) u) { names = ns }) (set_arranged o u.names v.0 x (fits p s u alike same));
    body = λ kind v call n. ap (λ ls. steps.body_at kind (moved_var o v) call (next_line call n (drop n ls))) (alike.lines kind v)
        ∙ ap (λ ls. steps.body_at kind (moved_var o v) call (next_line call n ls)) (drop-map (changed_callback (by_names o)) n (lines_in p kind v))
        ∙ ap (steps.body_at kind (moved_var o v) call) (next_line_moved call n (drop n (lines_in p kind v)))
        ∙ body_moved kind v call (next_line call n (drop n (lines_in p kind v)));
    count = λ n. refl;
  }

  -- a step from the state whose alike names have changed places is the step from the state itself, so changed
  pub next_moved : (p : Program) (s : State) (e : Event) → AreAlike p o s →
      next p (changed (by_names o) s) (changed_event (by_names o) e) ≡ next_map (changed (by_names o)) (changed_line (by_names o) p) (next p s e)
  next_moved p s e alike = next_exact (by_names o) p s (exact p s alike) (hides_names p s alike) (whole_names p s alike) e (by e) where
    by : (e : Event) → Comes (by_names o) s e
    by (Tick ms) = (refl, refl)
    by (Take k) = runs_same s k
    by (Finish k) = runs_same s k
    by e = tt
