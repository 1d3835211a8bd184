-- Each state that steps lead to is a reached one.
use Rattle.uv_order.proofs.Names.{List, Id, Event, Program, State, IsReached, IsSetAside, AreSetAside, kind_as, watched, after}
use Rattle.uv_order.proofs.Lemmas.{Fits, Lists, Rests, members}
use Rattle.uv_order.proofs.Documents.{HoldsAt, holds_after}
use Rattle.uv_order.proofs.Standing.{are_timers, all_active, all_ended, all_opened, all_closing}
use Rattle.uv_order.proofs.Follows.{begins_at}

-- ---- what it says

set_aside : (s : State) (ids : List Id) → Lists s.arena.slots Rests ids → AreSetAside s ids
set_aside s ids k = record { each = λ id h. rests id (k.each id h); distinct = k.distinct } where
  rests : (id : Id) → Fits s.arena.slots Rests id → IsSetAside s id
  rests id f = record { its = f.handle; holds = f.holds; kind = f.fits.kind; inactive = f.fits.inactive; stays = f.fits.stays }

is_reached : (p : Program) (s : State) → HoldsAt p s → IsReached s
is_reached p s h = let k = h.holds in record {
  begins = begins_at p s s.place h.at k.stands.stands;
  watchers = λ q. all_active s (kind_as q) (members (watched s q)) (k.kept.watchers q);
  timers = are_timers s s.timers s.next_start k.kept.timers;
  drawn = λ due id h. (k.kept.timers.each due id h).1;
  closing = all_closing s (members s.closing) k.kept.closing;
  done = all_ended s (members s.done) k.working.ended;
  ready = set_aside s s.ready k.kept.ready;
  shut = λ id h there. (k.kept.sound id h there).shut;
  opened = all_opened s k.working;
  pending = λ id h there on. let sent = k.sent.each id h there on in record {
    its = h;
    holds = there;
    kind = sent.0;
    active = (k.kept.sound id h there).awake sent.0 sent.1;
  };
}

pub reached : (p : Program) (es : List Event) → IsReached (after p es)
reached p es = is_reached p (after p es) (holds_after p es)
