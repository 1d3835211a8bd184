use Rattle.uv_requests.proofs.Names.{sym, ◌∙◌, refl}
use Rattle.uv_requests.proofs.Ending.{closed_refusal, loose_refusal}
use Rattle.uv_requests.proofs.requests.Requests.cancel.Goals as goal
use Rattle.uv_requests.proofs.requests.Requests.cancel.Goals.{else-is_open-via-then-is_open+else-on_list, else-is_open-via-else-is_open}

pub returns-else-is_open-clause-err : goal.returns-else-is_open-clause-err
returns-else-is_open-clause-err g c =
    let s = c.is_sound.ensures in let d = c.args.id in let from = c.in-Ok.request in let there = c.in-Ok.ensures.ok in
    elim c.else-is_open.branch [
      | else-is_open-via-then-is_open+else-on_list w ↦
          (loose_refusal s c.requires d from there (sym w.on_list.ensures.value ∙ w.if-on_list.false), refl)
      | else-is_open-via-else-is_open w ↦ (closed_refusal s c.requires d from there (sym c.is_open.ensures ∙ w.if-is_open.false), refl)
    ]
