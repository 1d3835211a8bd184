use Rattle.uv_timer.proofs.Names.{◌≡◌, refl, sym, ap, ◌∙◌, subst, None, Entry, place_in, taken_off}
use Rattle.uv_timer.proofs.Order.{order_none, order_one, lacks_slot}
use Rattle.uv_timer.proofs.hook.unhook.Goals as goal

pub returns-in_err-place : goal.returns-in_err-place
returns-in_err-place c =
    let array = c.args.heap.now.array in
    let none : place_in array c.args.slot ≡ None = sym c.place_of.ensures.place ∙ c.in_err-place.was in
    record {
      absent = none;
      array = sym (ap (λ o. taken_off o array) none);
      timers = λ ts h. order_none c.args.slot array ts (lacks_slot c.args.slot array none) h;
      room = refl;
      undone = rw c.from_residual.ensures refl;
      can_undo = rw c.from_residual.ensures tt;
    }

pub returns : goal.returns
returns c =
    let slot : c.remove_at.result.entry.slot ≡ c.args.slot = ap (λ (e : Entry). e.slot) c.remove_at.ensures.entry ∙ c.in_ok-place.ensures.slot in
    record {
      absent = subst (λ x. place_in c.remove_at.new.self.array x ≡ None) slot c.remove_at.ensures.can_undo.put_back.slot_absent;
      array = c.remove_at.ensures.array ∙ ap (λ o. taken_off o c.args.heap.now.array) (sym (sym c.place_of.ensures.place ∙ c.in_ok-place.was));
      timers = λ ts h. order_one c.args.slot c.args.heap.now.array c.remove_at.new.self.array ts c.in_ok-place.place c.remove_at.result.entry
          c.is_sound.ensures.slots
          c.in_ok-place.ensures.within (sym c.remove_at.ensures.entry) slot h (c.remove_at.ensures.order ts h);
      room = c.remove_at.ensures.room;
      undone = c.remove_at.ensures.undone;
      can_undo = c.remove_at.ensures.can_undo;
    }
