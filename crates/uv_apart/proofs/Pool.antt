-- What a worker takes and finishes, before or behind a step of the loop.
use Rattle.uv_apart.proofs.Names.{◌≡◌, ℕ, suc, List, [], ◌∷◌, ◌++◌, drop, Bool, true, false, Option, Some, None, Ok, Err, refl, ap, sym, subst, ◌∙◌, ◌||◌, slice_get, slice_set, or_right, same_Some, Id, Event, Loop, Take, Finish, IdleWorker, NoWork, Seen, Program, Slot, Content, Request, after, seen_of, state_of, found_or, same_id, State, front_request, request, with_id, ended, Moves, Refuses, next_work, take, work_of, finish, has_id, run_ids, has_both, itself, reached, cancels, is_apart, Meets, Why, digest_of, text_of, Finished, IsReached, state_map}
use Rattle.uv_ids.specs.declared.seen.Seen.TheVariants as seen
use Rattle.uv_work.specs.declared.content.Content.TheVariants as content
use Rattle.uv_model.specs.State.{request as held_request}
use Rattle.uv_model.specs.Next.{next}
use Rattle.uv_model.proofs.Runs.{after-moves}
use Rattle.uv_apart.proofs.Cancels.{apart_cancels}
use Rattle.uv_apart.proofs.Changed.{changed}
use Rattle.uv_apart.proofs.Walk.{next_changed}
use Rattle.uv_apart.proofs.Held.{asked, get_set_same, set_there, request_there, Holds, holds_open, working, working_leaves, working_hides}
use Rattle.uv_apart.proofs.Kept.{behind, loop_keeps, moved, moved_hides, moved_leaves, stays_changed}

-- ---- a step leaves an open request as it is

-- a state is the one that it is changed to by what it has already
stays_itself : (s : State) (waiting : List Id → List Id) (id : Id) (r : Request) → waiting s.waiting ≡ s.waiting →
    slice_set s.arena.slots id.slot (asked id r) ≡ s.arena.slots →
    changed (working (λ n. s.clock) waiting (λ ids. s.running) (λ ids. ids) id r) s ≡ s
stays_itself s waiting id r e f = λ i. record s { waiting = e i; arena = record s.arena { slots = f i } }

-- what a step kept: who waits first, and this request, if its slot is there still
pub record Keeps (a : State) (waiting : List Id → List Id) (id : Id) (r : Request) : Type 0 where
  pub waits : a.waiting ≡ waiting a.waiting
  pub slots : a.arena.slots ≡ slice_set a.arena.slots id.slot (asked id r)

keeps : (p : Program) (s a : State) (l : Option Seen) (waiting : List Id → List Id) (id : Id) (r : Request) → cancels p s ≡ false →
    next p s Loop ≡ Moves a l → Holds s id r → waiting s.waiting ≡ s.waiting →
    ((i : Id) → waiting s.waiting ++ i ∷ [] ≡ waiting (s.waiting ++ i ∷ [])) → Keeps a waiting id r
keeps p s a l waiting id r no_cancel e k same waits =
    let c = working (λ n. s.clock) waiting (λ ids. s.running) (λ ids. ids) id r in
    let leaves = working_leaves (λ n. s.clock) waiting (λ ids. s.running) (λ ids. ids) id r in
    let hides = working_hides (λ n. s.clock) waiting (λ ids. s.running) (λ ids. ids) id r s r k waits in
    let whole = stays_itself s waiting id r same (set_there s.arena.slots id.slot (asked id r) k.there) in
    let step = ap (λ (u : State). next p u Loop) (sym whole) ∙ next_changed p c leaves s hides (λ f. cc (no_cancel, f)) (λ f ids. refl) (λ f. refl) in
    let is : a ≡ changed c a = stays_changed c (next p s Loop) a l step e in
    record { waits = ap (λ (u : State). u.waiting) is; slots = ap (λ (u : State). u.arena.slots) is }

-- a slot that is set to a request, and where some request stands, holds that one
kept_request : (a : State) (id : Id) (r q : Request) → a.arena.slots ≡ slice_set a.arena.slots id.slot (asked id r) → request a id ≡ Some q →
    request a id ≡ Some r
kept_request a id r q e f =
    let there = request_there a.arena.slots id q f in
    let same : slice_get a.arena.slots id.slot ≡ Some (asked id r) =
    ap (λ slots. slice_get slots id.slot) e ∙ get_set_same a.arena.slots id.slot (asked id r) (asked id q) there in
    f ∙ ap Some (ap (λ (x : Slot Content). elim x.content [ Some y ↦ elim y [ content.Handle h ↦ q | content.Request z ↦ z ] | None ↦ q ])
    (same_Some (asked id q) (asked id r) (sym there ∙ same)))

-- ---- take

-- a worker took a request
pub record Takes (s : State) (k : ℕ) (b : State) (m : Option Seen) : Type 0 where
  pub id : Id
  pub request : Request
  pub idle : slice_get s.running k ≡ Some None
  pub front : front_request s s.waiting ≡ Some (id, request)
  pub is : b ≡ record s { waiting = drop 1 s.waiting; running = slice_set s.running k (Some id) }
  pub says : m ≡ Some (seen.Take k request.name id)

takes : (s : State) (k : ℕ) (b : State) (m : Option Seen) → take s k (next_work s (slice_get s.running k)) ≡ Moves b m → Takes s k b m
takes s k b m e = by (slice_get s.running k) refl e where
  found : (o : Option (Id × Request)) → slice_get s.running k ≡ Some None → front_request s s.waiting ≡ o →
      take s k (found_or o Ok (Err NoWork)) ≡ Moves b m → Takes s k b m
  found None f g e = cc e
  found (Some t) f g e = record {
    id = t.0;
    request = t.1;
    idle = f;
    front = g;
    is = ap (state_of s) (sym e);
    says = ap seen_of (sym e);
  }

  by : (o : Option (Option Id)) → slice_get s.running k ≡ o → take s k (next_work s o) ≡ Moves b m → Takes s k b m
  by None f e = cc e
  by (Some (Some id)) f e = cc e
  by (Some None) f e = found (front_request s s.waiting) f refl e

pub next_takes : (p : Program) (s : State) (k : ℕ) (b : State) (m : Option Seen) → next p s (Take k) ≡ Moves b m → Takes s k b m
unfolding next
next_takes p s k b m e = takes s k b m e

pub take_next : (p : Program) (s : State) (k : ℕ) (id : Id) (r : Request) → slice_get s.running k ≡ Some None →
    front_request s s.waiting ≡ Some (id, r) →
    next p s (Take k) ≡ Moves (record s { waiting = drop 1 s.waiting; running = slice_set s.running k (Some id) }) (Some (seen.Take k r.name id))
unfolding next
take_next p s k id r e f = ap (λ o. take s k (next_work s o)) e ∙ ap (λ o. take s k (found_or o Ok (Err NoWork))) f

-- who waits first
pub record First (s : State) (id : Id) (r : Request) : Type 0 where
  pub waiting : s.waiting ≡ id ∷ drop 1 s.waiting
  pub holds : request s id ≡ Some r

pub first : (s : State) (id : Id) (r : Request) → front_request s s.waiting ≡ Some (id, r) → First s id r
first s id r e = by s.waiting refl e where
  at : (i : Id) (is : List Id) (o : Option Request) → s.waiting ≡ i ∷ is → request s i ≡ o → with_id i o ≡ Some (id, r) → First s id r
  at i is None f g e = cc e
  at i is (Some q) f g e =
      let same = same_Some (i, q) (id, r) e in
      let here : i ≡ id = ap (λ (x : Id × Request). x.0) same in
      record {
        waiting = f ∙ ap (λ (x : Id). x ∷ is) here ∙ ap (λ (ids : List Id). id ∷ drop 1 ids) (sym f);
        holds = ap (request s) (sym here) ∙ g ∙ ap (λ (x : Id × Request). Some x.1) same;
      }

  by : (ids : List Id) → s.waiting ≡ ids → front_request s ids ≡ Some (id, r) → First s id r
  by [] f e = cc e
  by (i ∷ is) f e = at i is (request s i) f refl e

-- who waits goes on to wait behind the front
pub front_stays : (ids rest : List Id) (id i : Id) → ids ≡ id ∷ rest → drop 1 ids ++ i ∷ [] ≡ drop 1 (ids ++ i ∷ [])
front_stays ids rest id i e = cc

-- an open request is held as it was behind a step of the loop
still_held : (p : Program) (es : List Event) (a : State) (l : Option Seen) (waiting : List Id → List Id) (id : Id) (r : Request) →
    next p (after p es) Loop ≡ Moves a l → Keeps a waiting id r → has_id (a.waiting ++ run_ids a.running) id ≡ true → request a id ≡ Some r
still_held p es a l waiting id r e k on =
    let it = (subst IsReached (after-moves p es Loop a l e) (reached p (es ++ Loop ∷ []))).opened.each id on in
    kept_request a id r it.its k.slots it.holds

waits_on : (s : State) (id : Id) → s.waiting ≡ id ∷ drop 1 s.waiting → has_id (s.waiting ++ run_ids s.running) id ≡ true
waits_on s id e = ap (λ (ids : List Id). has_id (ids ++ run_ids s.running) id) e
    ∙ ap (λ (b : Bool). b || has_id (drop 1 s.waiting ++ run_ids s.running) id) (itself id id refl)

taken_apart : (p : Program) (es : List Event) (a b : State) (k : ℕ) (l m : Option Seen) → cancels p (after p es) ≡ false →
    next p (after p es) Loop ≡ Moves a l → next p (after p es) (Take k) ≡ Moves b m → Meets p (Take k) a b l m
taken_apart p es a b k l m no_cancel e f =
    let s = after p es in
    let t = next_takes p s k b m f in
    let id = t.id in
    let it = first s id t.request t.front in
    let holds = holds_open p es id t.request ((reached p es).opened.each id (waits_on s id it.waiting)) it.holds in
    let front = λ (ids : List Id). id ∷ drop 1 ids in
    let stays = λ (i : Id). front_stays s.waiting (drop 1 s.waiting) id i it.waiting in
    let kept = keeps p s a l front id t.request no_cancel e holds (sym it.waiting) (λ i. ap (λ (ids : List Id). id ∷ ids) (stays i)) in
    let still = still_held p es a l front id t.request e kept (waits_on a id kept.waits) in
    let first_still : front_request a a.waiting ≡ Some (id, t.request) = ap (front_request a) kept.waits ∙ ap (with_id id) still in
    let idle = ap (λ (rs : List (Option Id)). slice_get rs k) (loop_keeps p s a l e).1 ∙ t.idle in
    let take = λ (rs : List (Option Id)). slice_set rs k (Some id) in
    let c = moved (λ n. n) (drop 1) take in
    record {
      state = changed c a;
      event_after = take_next p a k id t.request idle first_still ∙ ap (λ (o : Option Seen). Moves (changed c a) o) (sym t.says);
      loop_after = behind c p s a b Loop l t.is
          (next_changed p c (moved_leaves (λ n. n) (drop 1) take) s (moved_hides (λ n. n) (drop 1) take s stays)
          (λ g. cc (no_cancel, g)) (λ g ids. refl) (λ g. refl)) e;
    }

pub takes_apart : (p : Program) (es : List Event) (s a b : State) (k : ℕ) (l m : Option Seen) → s ≡ after p es → cancels p s ≡ false →
    next p s Loop ≡ Moves a l → next p s (Take k) ≡ Moves b m → Meets p (Take k) a b l m
takes_apart p es s a b k l m is = subst
    (λ (u : State). cancels p u ≡ false → next p u Loop ≡ Moves a l → next p u (Take k) ≡ Moves b m → Meets p (Take k) a b l m)
    (sym is) (taken_apart p es a b k l m)

-- what refuses the loop's step refuses it behind the take
pub take_refuses : (p : Program) (s a : State) (k : ℕ) (l : Option Seen) (why : Why) → cancels p s ≡ false → next p s (Take k) ≡ Moves a l →
    next p s Loop ≡ Refuses why → next p a Loop ≡ Refuses why
take_refuses p s a k l why no_cancel e f =
    let t = next_takes p s k a l e in
    let it = first s t.id t.request t.front in
    let take = λ (rs : List (Option Id)). slice_set rs k (Some t.id) in
    let c = moved (λ n. n) (drop 1) take in
    ap (λ (u : State). next p u Loop) t.is
    ∙ next_changed p c (moved_leaves (λ n. n) (drop 1) take) s
    (moved_hides (λ n. n) (drop 1) take s (λ i. front_stays s.waiting (drop 1 s.waiting) t.id i it.waiting))
    (λ g. cc (no_cancel, g)) (λ g ids. refl) (λ g. refl)
    ∙ ap (state_map (changed c)) f

-- ---- finish

abbrev pub finished : Request → Request
finished r = record r { outcome = Finished (digest_of r.task.rounds (text_of r.task)) }

-- a worker finished a request
pub record Finishes (s : State) (k : ℕ) (b : State) (m : Option Seen) : Type 0 where
  pub id : Id
  pub request : Request
  pub runs : slice_get s.running k ≡ Some (Some id)
  pub holds : held_request s id ≡ Some request
  pub is : b ≡ ended (record s { running = slice_set s.running k None }) id request (finished request).outcome
  pub says : m ≡ Some (seen.Finish k request.name id)

finishes : (s : State) (k : ℕ) (b : State) (m : Option Seen) → finish s k (work_of s (slice_get s.running k)) ≡ Moves b m → Finishes s k b m
finishes s k b m e = by (slice_get s.running k) refl e where
  found : (id : Id) (o : Option Request) → slice_get s.running k ≡ Some (Some id) → request s id ≡ o →
      finish s k (found_or (with_id id o) Ok (Err IdleWorker)) ≡ Moves b m → Finishes s k b m
  found id None f g e = cc e
  found id (Some r) f g e = record {
    id = id;
    request = r;
    runs = f;
    holds = g;
    is = ap (state_of s) (sym e);
    says = ap seen_of (sym e);
  }

  by : (o : Option (Option Id)) → slice_get s.running k ≡ o → finish s k (work_of s o) ≡ Moves b m → Finishes s k b m
  by None f e = cc e
  by (Some None) f e = cc e
  by (Some (Some id)) f e = found id (request s id) f refl e

pub next_finishes : (p : Program) (s : State) (k : ℕ) (b : State) (m : Option Seen) → next p s (Finish k) ≡ Moves b m → Finishes s k b m
unfolding next
next_finishes p s k b m e = finishes s k b m e

pub finish_next : (p : Program) (s : State) (k : ℕ) (id : Id) (r : Request) → slice_get s.running k ≡ Some (Some id) → request s id ≡ Some r →
    next p s (Finish k)
    ≡ Moves (ended (record s { running = slice_set s.running k None }) id r (finished r).outcome) (Some (seen.Finish k r.name id))
unfolding next
finish_next p s k id r e f = ap (λ o. finish s k (work_of s o)) e ∙ ap (λ o. finish s k (found_or (with_id id o) Ok (Err IdleWorker))) f

runs_here : (running : List (Option Id)) (k : ℕ) (id : Id) → slice_get running k ≡ Some (Some id) → has_id (run_ids running) id ≡ true
runs_here (None ∷ rs) (suc k) id e = runs_here rs k id e
runs_here (Some i ∷ rs) (suc k) id e = or_right (same_id i id) (has_id (run_ids rs) id) (runs_here rs k id e)
runs_here each e1 id e = search (itself, same_Some, or_right)

runs_on : (s : State) (k : ℕ) (id : Id) → slice_get s.running k ≡ Some (Some id) → has_id (s.waiting ++ run_ids s.running) id ≡ true
runs_on s k id e = search (has_both, or_right, runs_here)

finished_apart : (p : Program) (es : List Event) (a b : State) (k : ℕ) (l m : Option Seen) → is_apart p (after p es) ≡ true →
    next p (after p es) Loop ≡ Moves a l → next p (after p es) (Finish k) ≡ Moves b m → Meets p (Finish k) a b l m
finished_apart p es a b k l m apart e f =
    let s = after p es in
    let t = next_finishes p s k b m f in
    let id = t.id in
    let no_cancel = apart_cancels p s apart in
    let holds = holds_open p es id t.request ((reached p es).opened.each id (runs_on s k id t.runs)) t.holds in
    let kept = keeps p s a l (λ ids. ids) id t.request no_cancel e holds refl (λ i. refl) in
    let runs = ap (λ (rs : List (Option Id)). slice_get rs k) (loop_keeps p s a l e).1 ∙ t.runs in
    let still = still_held p es a l (λ ids. ids) id t.request e kept (runs_on a k id runs) in
    let off = λ (rs : List (Option Id)). slice_set rs k None in
    let done = λ (ids : List Id). ids ++ id ∷ [] in
    let r = finished t.request in
    let c = working (λ n. n) (λ ids. ids) off done id r in
    record {
      state = changed c a;
      event_after = finish_next p a k id t.request runs still ∙ ap (λ (o : Option Seen). Moves (changed c a) o) (sym t.says);
      loop_after = behind c p s a b Loop l t.is
          (next_changed p c (working_leaves (λ n. n) (λ ids. ids) off done id r) s
          (working_hides (λ n. n) (λ ids. ids) off done id r s t.request holds (λ i. refl))
          (λ g. cc (no_cancel, g)) (λ g. cc (apart, g)) (λ g. refl)) e;
    }

pub finishes_apart : (p : Program) (es : List Event) (s a b : State) (k : ℕ) (l m : Option Seen) → s ≡ after p es → is_apart p s ≡ true →
    next p s Loop ≡ Moves a l → next p s (Finish k) ≡ Moves b m → Meets p (Finish k) a b l m
finishes_apart p es s a b k l m is = subst
    (λ (u : State). is_apart p u ≡ true → next p u Loop ≡ Moves a l → next p u (Finish k) ≡ Moves b m → Meets p (Finish k) a b l m)
    (sym is) (finished_apart p es a b k l m)
