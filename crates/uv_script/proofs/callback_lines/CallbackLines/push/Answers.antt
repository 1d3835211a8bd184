use Rattle.uv_script.proofs.ProofNames.{◌≡◌, ℕ, List, [], ◌∷◌, ◌++◌, length, sym, subst, rules, CallbackLine, IsIndex, IsNoted}
use Rattle.uv_script.proofs.Indexed.{index_more}
use Rattle.uv_script.proofs.callback_lines.CallbackLines.push.Goals as goal

pub invariant_of-self-2 : goal.invariant_of-self-2
invariant_of-self-2 c =
    let line = c.args.line in
    let was = c.self.inside.lines.items in
    let all : c.push_reserved.new.self.items ≡ was ++ line ∷ [] = search rules in
    let count : c.len.result ≡ length was = search rules in
    subst (λ (lines : List CallbackLine). IsIndex lines c.note.new.spots) (sym all)
    (index_more was line c.self.inside.spots c.note.new.spots c.self.invariant
    (subst (λ (n : ℕ). IsNoted (line.call, n) c.self.inside.spots c.note.new.spots) count c.in_ok-note.ensures.ok))
