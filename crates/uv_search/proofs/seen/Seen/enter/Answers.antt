use Rattle.uv_search.proofs.Names.{◌∙◌, arith, sym, ap, length, slice_get, subst, length-map, joined, Has}
use Rattle.uv_search.proofs.Cutting.{cut_more, has_none, keys_more, no_pair, number_there, on_err, same_keys, still_cut}
use Rattle.uv_search.proofs.seen.Seen.enter.Goals as goal

pub invariant_of-self : goal.invariant_of-self
invariant_of-self c = still_cut c.self.inside.halves c.self.inside.keys c.pair_of.new.halves c.pair_of.ensures.kept c.self.invariant

pub returns-in_err-pair-clause-err : goal.returns-in_err-pair-clause-err
returns-in_err-pair-clause-err c =
    let same = same_keys c.self.inside.halves c.self.inside.keys c.pair_of.new.halves c.pair_of.ensures.kept c.self.invariant in
    on_err c.from_residual.result (same ∙ c.self.view_is)

pub invariant_of-self-in-Some : goal.invariant_of-self-in-Some
invariant_of-self-in-Some c = still_cut c.self.inside.halves c.self.inside.keys c.pair_of.new.halves c.pair_of.ensures.kept c.self.invariant

pub returns-in-Some-clause-ok : goal.returns-in-Some-clause-ok
returns-in-Some-clause-ok c =
    let keys = c.self.inside.keys in
    let more = c.pair_of.new.halves in
    let pair = c.in_ok-pair.pair in
    let front = rw c.as_slice.ensures.value at c.in_ok-pair.ensures.front in
    let back = rw c.as_slice.ensures.value at c.in_ok-pair.ensures.back in
    let number = c.in-Some.number in
    let same = same_keys c.self.inside.halves keys more c.pair_of.ensures.kept c.self.invariant in
    let there = number_there more keys number pair.0 pair.1 _ front back (rw c.in-Some.is at c.number.ensures.some) in
    rw (← c.self.view_is) (sym (ap (λ ks. slice_get ks number) same) ∙ there, same)

pub invariant_of-self-then-len-limit : goal.invariant_of-self-then-len-limit
invariant_of-self-then-len-limit c =
    still_cut c.self.inside.halves c.self.inside.keys c.pair_of.new.halves c.pair_of.ensures.kept c.self.invariant

pub returns-then-len-limit-clause-ok : goal.returns-then-len-limit-clause-ok
returns-then-len-limit-clause-ok c =
    let halves = c.self.inside.halves in
    let keys = c.self.inside.keys in
    let more = c.pair_of.new.halves in
    let kept = c.pair_of.ensures.kept in
    let key = c.args.key.now.bytes.items in
    let front = rw c.as_slice.ensures.value at c.in_ok-pair.ensures.front in
    let back = rw c.as_slice.ensures.value at c.in_ok-pair.ensures.back in
    let none = no_pair more keys c.is_once.ensures (still_cut halves keys more kept c.self.invariant) c.in_ok-pair.pair.0 c.in_ok-pair.pair.1 key
    front back (rw c.in-None.is at c.number.ensures.none) in
    let same = same_keys halves keys more kept c.self.invariant ∙ c.self.view_is in
    let absent = subst (λ ks. Has ks key → ⊥) same (has_none _ key none) in
    (absent, omega (arith, c.if-len-limit.true, c.len.ensures, length-map keys (joined halves), ap length c.self.view_is), same)

pub invariant_of-self-in_err-add-in-None : goal.invariant_of-self-in_err-add-in-None
invariant_of-self-in_err-add-in-None c = rw c.in_err-add-in-None.ensures.err
    (still_cut c.self.inside.halves c.self.inside.keys c.pair_of.new.halves c.pair_of.ensures.kept c.self.invariant)

pub returns-in_err-add-in-None-clause-err : goal.returns-in_err-add-in-None-clause-err
returns-in_err-add-in-None-clause-err c =
    let same = same_keys c.self.inside.halves c.self.inside.keys c.pair_of.new.halves c.pair_of.ensures.kept c.self.invariant in
    on_err c.from_residual-in_err-add-in-None.result (rw c.in_err-add-in-None.ensures.err (same ∙ c.self.view_is))

pub invariant_of-self-in-None : goal.invariant_of-self-in-None
invariant_of-self-in-None c =
    let pair = c.in_ok-pair.pair in
    let front = rw c.as_slice.ensures.value at c.in_ok-pair.ensures.front in
    let back = rw c.as_slice.ensures.value at c.in_ok-pair.ensures.back in
    rw c.in_ok-add-in-None.ensures.ok
    (cut_more c.self.inside.halves c.pair_of.new.halves c.self.inside.keys c.pair_of.ensures.kept c.self.invariant pair.0 pair.1 _ front back
    (rw c.in-None.is at c.number.ensures.none))

pub returns-in_ok-add-in-None-clause-ok : goal.returns-in_ok-add-in-None-clause-ok
returns-in_ok-add-in-None-clause-ok c =
    let halves = c.self.inside.halves in
    let keys = c.self.inside.keys in
    let more = c.pair_of.new.halves in
    let kept = c.pair_of.ensures.kept in
    let key = c.args.key.now.bytes.items in
    let pair = c.in_ok-pair.pair in
    let front = rw c.as_slice.ensures.value at c.in_ok-pair.ensures.front in
    let back = rw c.as_slice.ensures.value at c.in_ok-pair.ensures.back in
    let none = no_pair more keys c.is_once.ensures (still_cut halves keys more kept c.self.invariant) pair.0 pair.1 key front back
    (rw c.in-None.is at c.number.ensures.none) in
    let absent = subst (λ ks. Has ks key → ⊥) (same_keys halves keys more kept c.self.invariant ∙ c.self.view_is) (has_none _ key none) in
    let grown = keys_more halves more keys kept c.self.invariant pair.0 pair.1 key front back in (grind (arith, length-map))
