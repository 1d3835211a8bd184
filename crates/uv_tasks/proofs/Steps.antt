-- Tasks and digests that are replaced by one, as a change.
use Rattle.std.proofs.Common.{◌≡◌, ◌∙◌, ℕ, ◌+◌, List, [], ◌∷◌, if◌then◌else◌, arith, refl, ap, ap₂, sym, Option, Some, replicate, slice_get}
use Rattle.std.specs.Prelude.{map, option_map}
use Rattle.std.proofs.lemmas.List.{drop-map, length-map, map-id}
use Rattle.std.proofs.lemmas.Option.{slice_get-map}
use Rattle.uv_ids.specs.declared.event.Event.{Event}
use Rattle.uv_ids.specs.declared.id.Id.{Id}
use Rattle.uv_ids.specs.declared.id.Var.{Var}
use Rattle.uv_ids.specs.declared.seen.Callback.{Callback}
use Rattle.uv_records.specs.Slots.{held}
use Rattle.uv_script.specs.Program.{Program, arena_size, lines_in, is_for, next_line}
use Rattle.uv_script.specs.declared.op.CallbackLine.{CallbackLine}
use Rattle.uv_script.specs.declared.op.MainOp.{MainOp}
use Rattle.uv_work.specs.declared.content.Content.{Content}
use Rattle.uv_work.specs.Requests.{digest_in}
use Rattle.uv_work.specs.declared.outcome.Outcome.{Outcome}
use Rattle.uv_model.specs.Content.{content_keeps, content_pends, is_used}
use Rattle.uv_model.specs.Next.{Next, next}
use Rattle.uv_model.specs.State.{State, fresh, live, named}
use Rattle.uv_model.specs.declared.place.Place.{Place}
use Rattle.uv_records.specs.Names.{unbound}
use Rattle.uv_alike.specs.Changed.{Change, Comes, changed, changed_content, changed_live, changed_main, changed_place, unchanged, next_map, changed_line}
use Rattle.uv_alike.specs.Hides.{Hides, IsWhole, IsExact}
use Rattle.uv_alike.proofs.Exact.{next_exact}
use Rattle.uv_alike.proofs.Mapped.{held_mapped, turns_mapped, finds_mapped, takes_mapped, frees_mapped, live_mapped}
use Rattle.uv_alike.proofs.Same.{any_same, event_same, lists_same, times_same}
use Rattle.uv_script.specs.SameWork.{least_task, same_line, same_main, same_callbacks, same_work}
use Rattle.uv_tasks.specs.Tasks.{same_outcome, same_digest, same_content, same_slot, same_state, same_seen}

abbrev by_work : Change
by_work = record unchanged {
  slots = map same_slot;
  work = record { task = λ t. least_task; outcome = same_outcome; digest = same_digest; main = map same_main; callbacks = map same_callbacks };
}

-- ---- the script

main_is : (o : Option MainOp) → option_map same_main o ≡ option_map (changed_main by_work) o
main_is o = assumption

pub lines_same : (p : Program) (kind : Callback) (v : Var) → lines_in (same_work p) kind v ≡ map same_line (lines_in p kind v)
lines_same p kind v = grind (arith, slice_get-map)

next_line_same : (call number : ℕ) (lines : List CallbackLine) → next_line call number (map same_line lines) ≡ next_line call number lines
next_line_same call number [] = refl
next_line_same call number (l ∷ ls) = ap (λ x. if is_for call l.call then Some number else x) (next_line_same call (number + 1) ls)

-- ---- the state

content_is : (x : Content) → same_content x ≡ changed_content by_work x
content_is x = assumption

live_is : (x : Option (Id × Content)) → option_map (λ (t : Id × Content). (t.0, same_content t.1)) x ≡ option_map (changed_live by_work) x
live_is x = assumption

tells : (o : Outcome) → digest_in (same_outcome o) ≡ same_digest (digest_in o)
tells o = grind arith

hides_work : (p : Program) (s : State) → Hides by_work p s
hides_work p s = record {
  same = λ a b. refl;
  finds = finds_mapped same_content s.arena;
  takes = λ x new e. rw (sym (content_is new)) (takes_mapped same_content x new s.arena);
  keeps = any_same same_content content_keeps (λ x. grind arith) s.arena.slots;
  pends = any_same same_content content_pends (λ x. grind arith) s.arena.slots;
  uses = any_same same_content is_used (λ x. grind arith) s.arena.slots;
  times = times_same p s;
  known = λ v. refl;
  binds = λ v x e. refl;
  lines = grind (arith, lines_same, slice_get-map);
  main = λ line e. slice_get-map same_main p.main line ∙ main_is (slice_get p.main line);
  work = record { opens = refl; cancels = refl; finishes = λ t. refl; tells = tells };
}

whole_work : (p : Program) (s : State) → IsWhole by_work p s
whole_work p s = record {
  holds = λ x. held_mapped same_content s.arena.slots x ∙ ap (λ g. option_map g (held s.arena.slots x)) (λ i y. content_is y i);
  turns = λ x old new e. rw (sym (content_is new)) (turns_mapped same_content s.arena.slots x new);
  frees = λ x old e. frees_mapped same_content (arena_size p).last_generation x s.arena;
  over = λ n. refl;
  clocks = refl;
  lives = λ v. live_mapped same_content s (changed by_work s) (named s v).id refl ∙ live_is (live s v);
  queued = λ ids. refl;
  ended = λ ids. refl;
}

exact : (p : Program) (s : State) → IsExact by_work p s
exact p s = record {
  bound = λ x. x;
  get = λ u v same. refl;
  set = λ u v x same. refl;
  body = grind (arith, lines_same, drop-map, next_line_same);
  count = λ n. refl;
}

-- ---- a step

place_is : (place : Place) → changed_place by_work place ≡ place
place_is place = grind arith

changed_is : (s : State) → changed by_work s ≡ same_state s
changed_is s = simp (lists_same, place_is, map-id)

next_is : (p : Program) (x : Next) → next_map (changed by_work) (changed_line by_work p) x ≡ next_map same_state same_seen x
next_is p x = grind (arith, changed_is)

pub next_same : (p : Program) (s : State) (e : Event) → next (same_work p) (same_state s) e ≡ next_map same_state same_seen (next p s e)
next_same p s e =
    ap₂ (next (same_work p)) (sym (changed_is s)) (sym (event_same by_work (λ v. refl) e))
    ∙ next_exact by_work p s (exact p s) (hides_work p s) (whole_work p s) e (by e) ∙ next_is p (next p s e)
  where
    by : (e : Event) → Comes by_work s e
    by e = grind arith

pub fresh_same : (p : Program) → fresh (same_work p) ≡ same_state (fresh p)
fresh_same p = ap (λ n. record (fresh p) { names = replicate n unbound }) (length-map p.callbacks same_callbacks)
