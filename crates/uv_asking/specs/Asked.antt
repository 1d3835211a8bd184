-- What is asked, as its parts.
use Rattle.std.specs.Prelude.{ℕ, Bool, List, Option}
use Rattle.uv_asking.specs.declared.asking.Offered.{Offered}
use Rattle.uv_asking.specs.declared.asking.Recorded.{Recorded}
use Rattle.uv_asking.specs.declared.asking.Takes.{Takes}
use Rattle.uv_asking.specs.declared.asking.Most.{Most}
use Rattle.uv_asking.specs.declared.asking.Question.{Question}
use Rattle.uv_asking.specs.declared.asking.Asking.{Asking}

pub record Asked : Type 0 where
  -- what is offered beside the steps of the loop and its workers, in the order of the lines
  pub offers : List Offered
  -- what comes is what came in a recording, at most so many of it at another place
  pub differ : Option ℕ
  -- what came in the recording, in its order
  pub recorded : List Recorded
  -- how long callbacks take, in the order of the lines
  pub takes : List Takes
  -- how far the clock may go
  pub clock : Option ℕ
  -- how often callbacks of names may be called, in the order of the lines
  pub most : List Most
  -- how many states are kept at the most
  pub states : ℕ
  -- states are told apart whole, by times, counts and generations too
  pub full : Bool
  pub question : Question
  -- the greatest number of ms is looked for that the question is answered with
  pub greatest : Bool

abbrev pub asked_in : Asking → Asked
asked_in a = record {
  offers = a.offers.items;
  differ = a.differ;
  recorded = a.recorded.items;
  takes = a.takes.items;
  clock = a.clock;
  most = a.most.items;
  states = a.states;
  full = a.full;
  question = a.question;
  greatest = a.greatest;
}
