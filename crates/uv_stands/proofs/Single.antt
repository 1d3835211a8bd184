-- The single values of a memory are those of each state that it stands for.
use Rattle.uv_stands.proofs.ProofNames.{◌≡◌, Place, State, Image, StandsFor}

module _ {i : Image Place} {s : State} (h : StandsFor i s) where
  pub place_is : i.place ≡ s.place
  place_is = λ l. (h.values l).place

  pub names_is : i.names ≡ s.names
  names_is = λ l. (h.values l).names

  pub time_is : i.times.time ≡ s.time
  time_is = λ l. (h.values l).time

  pub clock_is : i.clock ≡ s.clock
  clock_is = λ l. (h.values l).clock

  pub start_is : i.times.next_start ≡ s.next_start
  start_is = λ l. (h.values l).next_start

  pub running_is : i.running.workers ≡ s.running
  running_is = λ l. (h.values l).running
