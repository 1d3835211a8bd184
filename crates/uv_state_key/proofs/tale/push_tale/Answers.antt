use Rattle.uv_state_key.proofs.Names.{◌≡◌, ◌++◌, List, ℕ, OnOk, ap, ap₂, subst, ◌∙◌, after, By, base}
use Rattle.uv_state_key.specs.Listing.{told_state_code}
use Rattle.uv_state_key.proofs.TaleCodes.{told_state}
use Rattle.uv_state_key.proofs.tale.push_tale.Goals as goal

pub returns : goal.returns
returns g c =
    let s = after (g.M.Machine.program c.args.machine.now) (g.M.Machine.standing c.args.machine.now) in
    let old = c.args.out.now.items in
    subst (λ t. OnOk c.push_tale_in.result (c.push_tale_in.new.out.items ≡ t))
    (ap₂ (λ (d : By) (n : ℕ). old ++ told_state_code d n s) c.in_ok-form.ensures.by c.in_ok-form.ensures.most
    ∙ ap (λ (t : List ℕ). old ++ t) (told_state (base s) c.args.most s))
    c.push_tale_in.ensures
