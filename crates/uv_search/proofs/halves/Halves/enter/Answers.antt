use Rattle.uv_search.proofs.Cutting.{entered_cut, entered_keeps, if_ok_so, keeps_over, kept_twice, number_there, still_cut}
use Rattle.uv_search.proofs.halves.Halves.enter.Goals as goal

pub invariant_of-self : goal.invariant_of-self
invariant_of-self c =
    still_cut c.self.inside.parts c.self.inside.pairs c.enter.new.self c.enter.ensures.kept c.self.invariant

pub returns-in_err-front-clause-kept : goal.returns-in_err-front-clause-kept
returns-in_err-front-clause-kept c =
    rw (← c.self.view_is) (keeps_over c.self.inside.parts c.enter.new.self c.self.inside.pairs c.enter.ensures.kept c.self.invariant)

pub invariant_of-self-in_err-back : goal.invariant_of-self-in_err-back
invariant_of-self-in_err-back c =
    let parts = c.self.inside.parts in
    let more = c.enter-2.new.self in
    let kept = kept_twice parts c.enter.new.self more c.enter.ensures.kept c.enter-2.ensures.kept in
    still_cut parts c.self.inside.pairs more kept c.self.invariant

pub returns-in_err-back-clause-kept : goal.returns-in_err-back-clause-kept
returns-in_err-back-clause-kept c =
    let parts = c.self.inside.parts in
    let more = c.enter-2.new.self in
    let kept = kept_twice parts c.enter.new.self more c.enter.ensures.kept c.enter-2.ensures.kept in
    rw (← c.self.view_is) (keeps_over parts more c.self.inside.pairs kept c.self.invariant)

pub invariant_of-self-2 : goal.invariant_of-self-2
invariant_of-self-2 c =
    let parts = c.self.inside.parts in
    let more = c.enter-2.new.self in
    let kept = kept_twice parts c.enter.new.self more c.enter.ensures.kept c.enter-2.ensures.kept in
    let front = c.enter-2.ensures.kept c.in_ok-front.front _ (rw c.split_at.ensures.front at c.in_ok-front.ensures.ok) in
    let back = rw c.split_at.ensures.back at c.in_ok-back.ensures.ok in
    entered_cut parts more c.self.inside.pairs kept c.self.invariant c.in_ok-front.front c.in_ok-back.back c.args.bytes.now front back
    c.enter-3.new.self c.enter-3.ensures.entered

pub returns-clause-ok : goal.returns-clause-ok
returns-clause-ok c =
    let parts = c.self.inside.parts in
    let more = c.enter-2.new.self in
    let kept = kept_twice parts c.enter.new.self more c.enter.ensures.kept c.enter-2.ensures.kept in
    let front = c.enter-2.ensures.kept c.in_ok-front.front _ (rw c.split_at.ensures.front at c.in_ok-front.ensures.ok) in
    let back = rw c.split_at.ensures.back at c.in_ok-back.ensures.ok in
    search (if_ok_so, number_there)

pub returns-clause-kept : goal.returns-clause-kept
returns-clause-kept c =
    let parts = c.self.inside.parts in
    let more = c.enter-2.new.self in
    let kept = kept_twice parts c.enter.new.self more c.enter.ensures.kept c.enter-2.ensures.kept in
    let front = c.enter-2.ensures.kept c.in_ok-front.front _ (rw c.split_at.ensures.front at c.in_ok-front.ensures.ok) in
    let back = rw c.split_at.ensures.back at c.in_ok-back.ensures.ok in
    rw (← c.self.view_is) (entered_keeps parts more c.self.inside.pairs kept c.self.invariant c.in_ok-front.front c.in_ok-back.back c.args.bytes.now
    front back c.enter-3.new.self c.enter-3.ensures.entered)
