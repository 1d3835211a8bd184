-- Whether a poll is woken by an async handle, as the lines tell it and as the handles say it.
use Rattle.uv_order.proofs.Names.{arith, ◌≡◌, refl, sym, ◌∙◌, content_pends, has_some, has_pending, State, Told}
use Rattle.uv_order.proofs.Lives.{either_way, some_of, first, found, is_any}
use Rattle.uv_order.proofs.Sends.{SentAt}

-- someone is pending just where someone was sent to
pub pending_is : (told : Told) (s : State) → SentAt told.sent s → has_pending s ≡ has_some told.sent
pending_is told s sent = either_way _ _
    (λ on. let r = found content_pends s.arena.slots on in some_of told.sent r.0 (sent.are r.0 ∙ sym (grind arith) ∙ r.1))
    (λ on. let f = first told.sent on in is_any content_pends s.arena.slots f.id.slot f.id.generation refl
    (grind arith))
