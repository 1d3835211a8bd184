use Rattle.uv_find.proofs.Names.{◌≡◌, ◌&&◌, Bool, true, false, refl, ap, sym, ◌∙◌, asked_in, asks_no_more}
use Rattle.uv_find.proofs.Declaring.{whole_declares}
use Rattle.uv_find.proofs.forgetting.may_forget.Goals as goal

pub returns : goal.returns
returns c =
    let asked = asks_no_more c.args.script.now (asked_in c.args.asking.now) in
    c.asks_no_more.ensures ∙ sym (and_true asked) ∙ ap (λ d. asked && d) (sym (whole_declares c.args.script.now c.names.ensures.whole))
  where
    and_true : (b : Bool) → (b && true) ≡ b
    and_true true = refl
    and_true false = refl
