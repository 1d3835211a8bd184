use Rattle.uv_engine.proofs.Names.{arith, ◌∙◌, subst, List, ℕ, left}
use Rattle.uv_engine.proofs.Buffers.{IsPassed, passed_ahead, rest_fed, rest_last, skip_size}
use Rattle.uv_engine.proofs.input.Input.skip_line.Goals as goal

pub returns-then-skip_ahead-clause-line : goal.returns-then-skip_ahead-clause-line
returns-then-skip_ahead-clause-line g c = grind (arith, rest_fed)

pub returns-then-self-clause-line : goal.returns-then-self-clause-line
returns-then-self-clause-line g c = λ reads.
    rest_last _ _ _ _ (c.reads.invariant.passed reads) c.reads.invariant.part c.skip_ahead.ensures.part
    (rw c.if-skip_ahead.false at c.skip_ahead.ensures.line) (grind arith)

pub reads-preserved : goal.reads-preserved
reads-preserved g c = record {
  passed = grind (arith, passed_ahead);
  part = c.in_ok-read_ahead.ensures.part ∙ c.skip_ahead.ensures.part ∙ c.reads.invariant.part;
  end = c.in_ok-read_ahead.ensures.end;
  size_is =
      let less = skip_size _ _ c.skip_ahead.result c.skip_ahead.ensures.part c.skip_ahead.ensures.line c.skip_ahead.ensures.reader in
      omega (arith, less, c.in_ok-read_ahead.ensures.size, c.reads.invariant.size_is);
  budget = grind arith;
  given = grind arith;
  none_failed = c.in_ok-read_ahead.ensures.reader ∙ c.reads.invariant.none_failed;
}
