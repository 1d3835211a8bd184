use Rattle.uv_script.proofs.ProofNames.{refl, subst, rules, Declares, InCallback, Sizes, HasWorkers, Orders, HasIo, FromHeap, HasRoom, IsReadScript, IsSaid, said}
use Rattle.uv_script.specs.declared.statement.Statement.{Statement}
use Rattle.uv_script.proofs.AfterLines.{said_sound}
use Rattle.uv_script.proofs.Kept.{uncounted_more}
use Rattle.uv_script.proofs.script.Script.add.Goals as goal

pub invariant_of-self : goal.invariant_of-self
invariant_of-self c =
    let p = c.args.self.now in
    let is = subst (IsReadScript c.self.inside.lines) c.self.view_is c.self.invariant in
    uncounted_more c.self.inside.lines p _ (Sizes c.in-Sizes.size) refl is
    (subst (λ (s : Statement). IsSaid p (said s)) c.in-Sizes.is c.requires.said)
    (subst (λ (s : Statement). HasRoom p (said s)) c.in-Sizes.is c.requires.room) (search rules)

pub invariant_of-self-in-HasWorkers : goal.invariant_of-self-in-HasWorkers
invariant_of-self-in-HasWorkers c =
    let p = c.args.self.now in
    let self = c.self-in-HasWorkers in
    let is = subst (IsReadScript self.inside.lines) self.view_is self.invariant in
    uncounted_more self.inside.lines p _ (HasWorkers c.in-HasWorkers.workers) refl is
    (subst (λ (s : Statement). IsSaid p (said s)) c.in-HasWorkers.is c.requires.said)
    (subst (λ (s : Statement). HasRoom p (said s)) c.in-HasWorkers.is c.requires.room) (search rules)

pub invariant_of-self-in-Orders : goal.invariant_of-self-in-Orders
invariant_of-self-in-Orders c =
    let p = c.args.self.now in
    let self = c.self-in-Orders in
    let is = subst (IsReadScript self.inside.lines) self.view_is self.invariant in
    uncounted_more self.inside.lines p _ (Orders c.in-Orders.order) refl is
    (subst (λ (s : Statement). IsSaid p (said s)) c.in-Orders.is c.requires.said)
    (subst (λ (s : Statement). HasRoom p (said s)) c.in-Orders.is c.requires.room) (search rules)

pub invariant_of-self-in-HasIo : goal.invariant_of-self-in-HasIo
invariant_of-self-in-HasIo c =
    let p = c.args.self.now in
    let self = c.self-in-HasIo in
    let is = subst (IsReadScript self.inside.lines) self.view_is self.invariant in
    uncounted_more self.inside.lines p _ HasIo refl is (subst (λ (s : Statement). IsSaid p (said s)) c.in-HasIo.is c.requires.said)
    (subst (λ (s : Statement). HasRoom p (said s)) c.in-HasIo.is c.requires.room) (search rules)

pub invariant_of-self-in-FromHeap : goal.invariant_of-self-in-FromHeap
invariant_of-self-in-FromHeap c =
    let p = c.args.self.now in
    let self = c.self-in-FromHeap in
    let is = subst (IsReadScript self.inside.lines) self.view_is self.invariant in
    uncounted_more self.inside.lines p _ FromHeap refl is (subst (λ (s : Statement). IsSaid p (said s)) c.in-FromHeap.is c.requires.said)
    (subst (λ (s : Statement). HasRoom p (said s)) c.in-FromHeap.is c.requires.room) (search rules)

pub declare-requires-clause-sound : goal.declare-requires-clause-sound
declare-requires-clause-sound c =
    let p = c.args.self.now in
    said_sound p (Declares c.in-Declares.name.now) (subst (λ (s : Statement). IsSaid p (said s)) c.in-Declares.is c.requires.said)

pub push_callback-requires-clause-sound : goal.push_callback-requires-clause-sound
push_callback-requires-clause-sound c =
    let p = c.args.self.now in
    let at = c.in-InCallback in
    said_sound p (InCallback at.kind at.name at.line) (subst (λ (s : Statement). IsSaid p (said s)) at.is c.requires.said)
