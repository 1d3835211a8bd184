use Rattle.uv_loop.proofs.Courses.{seen_stands, seen_length, seen_last, seen_begins}
use Rattle.uv_loop.proofs.arena_loop.ArenaLoop.stands.Goals as goal

pub returns-clause-stands : goal.returns-clause-stands
returns-clause-stands c = seen_stands _ _ _ _ _ _ c.self.view_is c.self.invariant

pub returns-clause-records : goal.returns-clause-records
returns-clause-records c = seen_length _ _ _ _ _ _ c.self.view_is c.self.invariant

pub returns-clause-begins : goal.returns-clause-begins
returns-clause-begins c = seen_begins _ _ _ _ _ _ c.self.view_is c.self.invariant

pub returns-clause-last : goal.returns-clause-last
returns-clause-last c = seen_last _ _ _ _ _ _ c.self.view_is c.self.invariant
