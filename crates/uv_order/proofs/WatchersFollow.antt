-- The sections of watchers, of async handles and of closing ones: each step goes on from where the state stands.
use Rattle.uv_order.proofs.Names.{arith, ◌≡◌, ◌||◌, Bool, true, false, List, ◌∷◌, ◌++◌, drop, Option, None, refl, ap, sym, ◌∙◌, append_assoc, if◌then◌else◌, cond_both, not, Id, Program, arena_size, order_of, HandleRecord, Run, BehindClosing, WatcherKind, phase_of, freed, Slot, Content, Request, digest_in, request_in, same_id, State, with_handle, front, front_request, watched, poll_timeout, Moves, call, calls, front_moved, has_id, AreDistinct, Told, AllOff, In, part_of, Opens, IsOver, Standing, Within, MayLeave, Running, found_both, kind_as, AreActive, Kind, Phase, Seen, Callback, Stage, option_map, [], Names, subst}
use Rattle.uv_records.specs.Handles as records
use Rattle.uv_model.specs.Next as step
use Rattle.uv_order.specs.Documented as doc
use Rattle.uv_order.specs.Documented.{Walk}
use Rattle.uv_order.proofs.Lemmas.{none_off, all_off, distinct_back, same, itself, name_in, FrontRequest, request_front, HasEnded, no_request, Kept, Watches, Closes, FrontOf, front_of, IsSync, first_left}
use Rattle.uv_order.proofs.KeptSteps.{no_front}
use Rattle.uv_order.proofs.Lives.{may_wait_is, lives_is}
use Rattle.uv_order.proofs.Sends.{pends, pends_in, pends_there, pass_both, pass_off}
use Rattle.uv_order.proofs.Standing.{left_all, rest, Leaves, NobodyLeft, IsBehind, follows_to, Follows, empty_over, IsNext, async_next, check_next, are_timers, are_active, are_closing, walking, polls, done, closing, running, Has}
use Rattle.uv_order.proofs.TimersFollow.{call_follows, turn_follows, named_of, call_counted, its_body}

-- ---- sections of watchers, and of async handles

-- a section of this kind that begins with this list
abbrev pub walk_with : Told → WatcherKind → Bool → List Id → Walk
walk_with told q woken ids = record { ahead = ids; off = []; sent = doc.sent_at (phase_of q) told; body = []; woken = woken }

-- it has its list, that of async handles behind a poll that was woken
pub opens_watched : (p : Program) (told : Told) (s t : State) (q : WatcherKind) (woken : Bool) → doc.has_list p (phase_of q) woken ≡ true → Kept s →
    (watched s q).yet ≡ [] →
    Opens p (phase_of q) told woken (record { before = s; seen = Seen.Section (phase_of q); after = t }) (walk_with told q woken (watched s q).list)
opens_watched p told s t q woken has k e = record {
  list = rw has (at q (are_active s (kind_as q) (watched s q) e (k.watchers q)));
  off = refl;
  sent = refl;
  body = refl;
  kept = refl;
} where
  at : (q : WatcherKind) → AreActive s (kind_as q) (watched s q).list →
      doc.HasList (phase_of q) (record { before = s; seen = Seen.Section (phase_of q); after = t }) (watched s q).list
  at q are = grind arith

-- where nobody is left, none of a kind is yet to run
none_yet : (s : State) (q : WatcherKind) → NobodyLeft (rest s.ready s) → (watched s q).yet ≡ []
none_yet s q e = grind arith

-- nobody is left of no list of async handles
pub none_behind : (slots : List (Slot Content)) (w : Walk) (yet : List Id) → w.ahead ≡ [] → yet ≡ [] → IsBehind slots w yet
none_behind slots w yet none e = grind arith

pub plain_over : (q : WatcherKind) (w : Walk) → IsSync q → w.body ≡ [] → doc.AllOff w.off w.ahead → IsOver (phase_of q) w
plain_over q w d b o = grind arith

-- ---- the front of those yet to run, and who is behind it

in_front : (s : State) (ids : List Id) (t : Id × HandleRecord) → FrontOf s ids t → has_id ids t.0 ≡ true
in_front s ids t f = ap (λ (is : List Id). has_id is t.0) f.are ∙ rw (itself t.0 t.0 refl) refl

apart : (s : State) (ids : List Id) (t : Id × HandleRecord) (id : Id) → FrontOf s ids t → AreDistinct ids → has_id (drop 1 ids) id ≡ true →
    same_id id t.0 ≡ false
apart s ids t id f d e = grind (arith, same)

-- the front, where it isn't pending, wasn't sent to before the section began
not_sent : (slots : List (Slot Content)) (w : Walk) (t : Id × HandleRecord) → t.1.pending ≡ false → pends slots t.0 ≡ t.1.pending →
    (has_id w.sent t.0 ≡ true → pends slots t.0 ≡ true) → has_id w.off t.0 ≡ false → (has_id w.off t.0 || not (has_id w.sent t.0)) ≡ true
not_sent slots w t off is still on = grind arith

-- with none of the async list yet to run, its section is over
pub async_over : (slots : List (Slot Content)) (w : Walk) (yet : List Id) → IsBehind slots w yet → yet ≡ [] → w.body ≡ [] → IsOver Phase.Async w
async_over slots w yet a none b = grind (arith, all_off, pass_both, pass_off)

-- ---- the steps

module _ (p : Program) (told : Told) (names : Names) (s : State) (h : Has p told names s) where
  -- such a section begins behind a part that may be left
  pub begin_follows : (run : Run) (q : WatcherKind) (at : Standing) → MayLeave p s told at → IsNext (part_of at) (doc.Of (In (phase_of q))) →
      doc.has_list p (phase_of q) (doc.woken_at at) ≡ true → NobodyLeft (rest s.ready s) →
      Follows p told names (Running run.mode run.line at) s (step.begin_walk s run q)
  begin_follows run q at over follows has e = follows_to (doc.section (In (phase_of q)) over
      (follows (order_of p) run.mode (doc.goes_on s)) refl (opens_watched p told s _ q (doc.woken_at at) has h.kept (none_yet s q e))
      (grind arith)) (running refl walking (grind (arith, left_all, none_off))) h.counted

  -- that of async handles behind a poll that nobody woke, where it has no list
  pub unwoken_follows : (run : Run) (w : Walk) → w.woken ≡ false → w.ahead ≡ [] → w.body ≡ [] → NobodyLeft (rest s.ready s) →
      Follows p told names (Running run.mode run.line (Within (In Phase.Done) w)) s (step.begins s run (Stage.Walking WatcherKind.Async) Phase.Async)
  unwoken_follows run w unwoken none b e =
      follows_to (doc.section (In Phase.Async) (empty_over Phase.Done w none b, tt) (async_next (order_of p) run.mode (doc.goes_on s)) refl
      (record { list = rw unwoken refl; off = refl; sent = refl; body = refl; kept = refl }) refl)
      (running refl (walking {q = WatcherKind.Async} {w = walk_with told WatcherKind.Async w.woken []})
      (assumption (none_behind s.arena.slots (walk_with told WatcherKind.Async w.woken []) s.watchers.async.yet refl e.async, e))) h.counted

  -- what comes behind the section of a kind: the poll, the closing section, or that of another kind
  after_follows : (run : Run) (q : WatcherKind) (w : Walk) → IsOver (phase_of q) w → NobodyLeft (rest s.ready s) →
      Follows p told names (Running run.mode run.line (Within (In (phase_of q)) w)) s (step.after_walk s run q)
  after_follows run WatcherKind.Idle w over e = search begin_follows
  after_follows run WatcherKind.Prepare w over e = follows_to (doc.poll (poll_timeout s run.mode) (over, tt) (grind arith) (record {
    timers = s.timers;
    are = are_timers s s.timers s.next_start h.kept.timers;
    is = may_wait_is s s.timers run.mode (lives_is s h.working);
  }) refl refl) (running refl polls (assumption e)) h.counted
  after_follows run WatcherKind.Check w over e = follows_to (doc.section (In Phase.Closing) (over, tt) (grind arith) refl
      (record { list = (refl, are_closing s e.closing h.kept); off = refl; sent = refl; body = refl; kept = refl }) refl)
      (running refl closing (assumption (sym (none_off s.closing.list), e))) h.counted
  after_follows run WatcherKind.Async w over e = begin_follows run WatcherKind.Check (Within (In Phase.Async) w) (over, tt) check_next refl e

  -- the next watcher is called
  call_watcher : (run : Run) (q : WatcherKind) (w : Walk) (t : Id × HandleRecord) → IsSync q → FrontOf s (watched s q).yet t →
      Leaves (rest s.ready s) (Within (In (phase_of q)) w) → w.body ≡ [] →
      Follows p told names (Running run.mode run.line (Within (In (phase_of q)) w)) s
      (call p (front_moved s q t.0) (record run { stage = Stage.Walking q }) t.0 t.1.name)
  call_watcher run WatcherKind.Async w t d f l b = absurd d
  call_watcher run each w t d f l b =
      let next = first_left w.ahead w.off t.0 (drop 1 (watched s each).yet) (grind arith) in
      call_follows p told names s h (front_moved s each t.0) run (Stage.Walking each) (In (phase_of each)) w t next.behind refl
      (grind arith) f.holds refl refl walking (assumption (next.left, l))

  pub walk_follows : (run : Run) (q : WatcherKind) (w : Walk) → IsSync q → run.stage ≡ Stage.Walking q →
      Leaves (rest s.ready s) (Within (In (phase_of q)) w) → w.body ≡ [] →
      Follows p told names (Running run.mode run.line (Within (In (phase_of q)) w)) s (step.walk p s run q)
  walk_follows run q w d st l b =
      found_both (front s (watched s q).yet) _ _ (Follows p told names (Running run.mode run.line (Within (In (phase_of q)) w)) s)
      (λ t e. subst (λ (x : Stage). Follows p told names (Running run.mode run.line (Within (In (phase_of q)) w)) s
      (call p (front_moved s q t.0) (record run { stage = x }) t.0 t.1.name)) (sym st)
      (call_watcher run q w t d (front_of s (watched s q).yet t e) l b))
      (λ e. let none = no_front s (Watches (kind_as q)) (watched s q).list (watched s q).yet (h.kept.watchers q).each e in
      after_follows run q w (plain_over q w d b (all_off w.ahead w.off (sym (grind arith) ∙ none))) (grind arith))

  -- an async handle is called, or passed by without a line
  pub async_follows : (run : Run) (w : Walk) → run.stage ≡ Stage.Walking WatcherKind.Async → Leaves (rest s.ready s) (Within (In Phase.Async) w) →
      w.body ≡ [] → Follows p told names (Running run.mode run.line (Within (In Phase.Async) w)) s (step.walk_async p s run)
  async_follows run w st l b =
      found_both (front s s.watchers.async.yet) _ _ (Follows p told names (Running run.mode run.line (Within (In Phase.Async) w)) s)
      (λ t e. at t (front_of s s.watchers.async.yet t e))
      (λ e. let all = s.watchers.async in
      let none : all.yet ≡ [] = no_front s (Watches Kind.Async) all.list all.yet (h.kept.watchers WatcherKind.Async).each e in
      after_follows run WatcherKind.Async w (async_over s.arena.slots w s.watchers.async.yet l.async none b) (assumption (none, l)))
    where
      at : (t : Id × HandleRecord) → FrontOf s s.watchers.async.yet t →
          Follows p told names (Running run.mode run.line (Within (In Phase.Async) w)) s
          (if t.1.pending then call p (with_handle (front_moved s WatcherKind.Async t.0) t.0 (records.woken t.1)) run t.0 t.1.name
          else Moves (step.at (front_moved s WatcherKind.Async t.0) run (Stage.Walking WatcherKind.Async)) None)
      at t f =
          let a = l.async in
          let next = first_left a.behind w.off t.0 (drop 1 s.watchers.async.yet) (sym a.left ∙ f.are) in
          let all : w.ahead ≡ (a.gone ++ next.passed) ++ t.0 ∷ next.behind =
          a.all ∙ ap (λ (ids : List Id). a.gone ++ ids) next.list ∙ sym (append_assoc a.gone next.passed (t.0 ∷ next.behind)) in
          let passes = pass_both w.off w.sent a.gone next.passed a.passed (pass_off w.off w.sent next.passed next.off) in
          let distinct = distinct_back s.watchers.async.list s.watchers.async.yet (h.kept.watchers WatcherKind.Async).distinct in
          let unsent : t.1.pending ≡ false → (has_id w.off t.0 || not (has_id w.sent t.0)) ≡ true =
          λ off. not_sent s.arena.slots w t off (ap pends_in f.holds) (a.still t.0 (in_front s s.watchers.async.yet t f)) next.on in
          cond_both t.1.pending _ _ (Follows p told names (Running run.mode run.line (Within (In Phase.Async) w)) s)
          (λ on. call_follows p told names s h (with_handle (front_moved s WatcherKind.Async t.0) t.0 (records.woken t.1)) run run.stage
          (In Phase.Async) w t next.behind refl (grind arith) f.holds refl refl (rw st (walking {q = WatcherKind.Async}))
          (rw st (left_all l.timers l.idle l.prepare l.check (record {
            gone = [];
            behind = next.behind;
            all = refl;
            left = next.left;
            passed = tt;
            still = λ id behind was. pends_there s.arena.slots t.0 id t.1 (records.woken t.1) f.holds
                (apart s s.watchers.async.yet t id f distinct behind)
                ∙ a.still id (grind arith) was;
          }) l.closing l.done)))
          (λ off. (
            record {
              stands = running b (walking {q = WatcherKind.Async}) (left_all l.timers l.idle l.prepare l.check (record {
                gone = (a.gone ++ next.passed) ++ t.0 ∷ [];
                behind = next.behind;
                all = all ∙ sym (append_assoc (a.gone ++ next.passed) (t.0 ∷ []) next.behind);
                left = next.left;
                passed = pass_both w.off w.sent (a.gone ++ next.passed) (t.0 ∷ []) passes (unsent off, tt);
                still = λ id behind was. a.still id (grind arith) was;
              }) l.closing l.done);
              counted = h.counted;
            },
            refl,
          ))

  -- ---- the section of the requests that are done, and the closing section

  pub done_follows : (run : Run) (w : Walk) → run.stage ≡ Stage.Done → Leaves (rest s.ready s) (Within (In Phase.Done) w) → w.woken ≡ true →
      w.body ≡ [] → Follows p told names (Running run.mode run.line (Within (In Phase.Done) w)) s (step.collect_request p s run)
  done_follows run w st l woken b =
      found_both (front_request s s.done.yet) _ _ (Follows p told names (Running run.mode run.line (Within (In Phase.Done) w)) s)
      (λ t e. at t (request_front s s.done.yet t e))
      (λ e. let none : s.done.yet ≡ [] = no_request s HasEnded s.done.list s.done.yet h.working.ended e in
      begin_follows run WatcherKind.Async (Within (In Phase.Done) w)
      (record { done = b; may_pass = all_off w.ahead w.off (sym l.done ∙ none) }, tt) async_next woken (assumption (none, l)))
    where
      at : (t : Id × Request) → FrontRequest s s.done.yet t → Follows p told names (Running run.mode run.line (Within (In Phase.Done) w)) s
          (calls p (record s {
            arena = freed (arena_size p).last_generation t.0 s.arena;
            done = record s.done { yet = drop 1 s.done.yet };
          }) run Callback.After t.1.name (Seen.After (digest_in t.1.outcome) t.1.name t.0))
      at t f =
          let v = t.1.name in
          let next = first_left w.ahead w.off t.0 (drop 1 s.done.yet) (sym l.done ∙ f.are) in
          follows_to (doc.call Callback.After v t.0 next.behind refl
          (record { done = b; passed = next.passed; list = next.list; may_pass = next.off; may_call = assumption })
          (h.agrees.made t.0 v (ap (option_map name_in) f.holds))
          (ap (λ (o : Option Content). option_map (λ (r : Request). Seen.After (digest_in r.outcome) v t.0) (request_in o)) f.holds) refl)
          (running (its_body p told s Callback.After v h.counted) (rw st (done woken)) (rw st (assumption (next.left, l))))
          (call_counted p told s Callback.After v t.0 h.counted)

  pub closing_follows : (run : Run) (w : Walk) → run.stage ≡ Stage.Closing → Leaves (rest s.ready s) (Within (In Phase.Closing) w) → w.body ≡ [] →
      Follows p told names (Running run.mode run.line (Within (In Phase.Closing) w)) s (step.close_front p s run)
  closing_follows run w st l b =
      found_both (front s s.closing.yet) _ _ (Follows p told names (Running run.mode run.line (Within (In Phase.Closing) w)) s)
      (λ t e. at t (front_of s s.closing.yet t e))
      (λ e. let none = no_front s Closes s.closing.list s.closing.yet h.kept.closing.each e in
      turn_follows p told names s h run BehindClosing (Within (In Phase.Closing) w) refl
      (record { done = b; may_pass = all_off w.ahead w.off (sym l.closing ∙ none) }, tt) (assumption (none, l)))
    where
      at : (t : Id × HandleRecord) → FrontOf s s.closing.yet t → Follows p told names (Running run.mode run.line (Within (In Phase.Closing) w)) s
          (calls p (record s {
            arena = freed (arena_size p).last_generation t.0 s.arena;
            closing = record s.closing { yet = drop 1 s.closing.yet };
          }) run Callback.Close t.1.name (Seen.Closed t.1.name t.0))
      at t f =
          let v = t.1.name in
          let next = first_left w.ahead w.off t.0 (drop 1 s.closing.yet) (sym l.closing ∙ f.are) in
          follows_to (doc.call Callback.Close v t.0 next.behind refl
          (record { done = b; passed = next.passed; list = next.list; may_pass = next.off; may_call = assumption })
          (h.agrees.made t.0 v (named_of s t f.holds)) refl refl)
          (running (its_body p told s Callback.Close v h.counted) (rw st closing) (rw st (assumption (next.left, l))))
          (call_counted p told s Callback.Close v t.0 h.counted)
