-- A send to the async handle of a name.
use Rattle.uv_ops.proofs.Names.{◌≡◌, Option, Some, None, Result, Ok, Err, refl, sym, ap, ◌∙◌, Id, Var, Code, Answer, HandleRecord, sent, send_refusal, Place, found_or, State, live_handle, with_handle, Coded, Done, send, says_code, on_handle, refuses, succeeds, Image, Allows, ComesTo, Performs, StandsFor, Sends}
use Rattle.uv_ids.specs.declared.code.Code.TheVariants as code
use Rattle.uv_ids.specs.declared.code.Answer.TheVariants as answer
use Rattle.uv_script.specs.declared.op.Op.TheVariants as op
use Rattle.uv_stands.specs.declared.ask.Ask.TheVariants as ask

-- the handle was sent to
abbrev sent_to : State → Id → HandleRecord → Done
sent_to s id h = succeeds (with_handle s id (sent h))

-- a send is an op on a handle
send_is : (s : State) (r : Result (Id × HandleRecord) Code) → says_code (send s r) ≡ on_handle s r send_refusal (sent_to s)
send_is s (Err c) = refl
send_is s (Ok t) = at (send_refusal t.1) where
  at : (o : Option Code)
      → says_code (found_or o (λ c. record { state = s; code = c }) (record { state = with_handle s t.0 (sent t.1); code = code.Ok }))
      ≡ found_or o (refuses s) (sent_to s t.0 t.1)
  at None = refl
  at (Some c) = refl

abbrev code_in : Answer → Code
code_in (answer.Code c) = c
code_in a = code.Ok

abbrev coded : Done → Coded
coded d = record { state = d.state; code = code_in d.answer }

sends_as : (s t : State) (r : Result (Id × HandleRecord) Code) (c : Code)
    → on_handle s r send_refusal (sent_to s) ≡ record { state = t; answer = answer.Code c } → send s r ≡ record { state = t; code = c }
sends_as s t r c e = ap coded (send_is s r ∙ e)

pub send_done : (i j : Image Place) (v : Var) (d : Id) (h to : HandleRecord) → Allows i v ask.Send d h → to ≡ sent h
    → ((s : State) → StandsFor i s → StandsFor j (with_handle s d to)) → Sends v i j code.Ok
send_done i j v d h to allows is stands s at = (
  with_handle s d to,
  sends_as s (with_handle s d to) (live_handle s v) code.Ok
      (allows.done s at (sent_to s) ∙ ap (λ g. succeeds (with_handle s d g)) (sym is)),
  stands s at,
)

pub send_refused : (i : Image Place) (v : Var) (c : Code) → ComesTo i v ask.Send (λ s f. refuses s c) → Sends v i i c
send_refused i v c refused s at = (s, sends_as s s (live_handle s v) c (refused s at (sent_to s)), at)

-- the same as an op
pub send_performs : (v : Var) (i j : Image Place) (c : Code) → Sends v i j c → Performs (op.Send v) i j (answer.Code c)
send_performs v i j c sends s h reached = let t = sends s h in (t.0, ap says_code t.1, t.2)
