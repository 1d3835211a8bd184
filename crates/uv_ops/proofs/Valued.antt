-- The run is to stop, or the loop's time is the clock's: what the memory stands for then.
use Rattle.uv_ops.proofs.Names.{◌≡◌, true, refl, sym, ◌∙◌, subst, Place, State, refreshed, Image, Performs, StandsFor, valued}
use Rattle.uv_ids.specs.declared.code.Code.TheVariants as code
use Rattle.uv_ids.specs.declared.code.Answer.TheVariants as answer
use Rattle.uv_script.specs.declared.op.Op.TheVariants as op

module _ (i j : Image Place) where
  pub stop_performs : j ≡ record i { stop_flag = true } → Performs op.StopLoop i j (answer.Code code.Ok)
  stop_performs is s h reached =
      let t : State = record s { stop_flag = true } in (
        t,
        refl,
        subst (λ q. StandsFor q t)
            (sym (is ∙ (λ l. record i {
              place = (h.values l).place;
              times = record { time = (h.values l).time; next_start = (h.values l).next_start };
              clock = (h.values l).clock;
              stop_flag = true;
              idled = (h.values l).idled;
            })))
            (valued i s s.place s.time s.clock s.next_start true s.idled h),
      )

  pub update_performs : j ≡ record i { times = record i.times { time = i.clock } } → Performs op.UpdateTime i j (answer.Code code.Ok)
  update_performs is s h reached = (
    refreshed s,
    refl,
    subst (λ q. StandsFor q (refreshed s))
        (sym (is ∙ (λ l. record i {
          place = (h.values l).place;
          times = record { time = (h.values l).clock; next_start = (h.values l).next_start };
          clock = (h.values l).clock;
          stop_flag = (h.values l).stop_flag;
          idled = (h.values l).idled;
        })))
        (valued i s s.place s.clock s.clock s.next_start s.stop_flag s.idled h),
  )
