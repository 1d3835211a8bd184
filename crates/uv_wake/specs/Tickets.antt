-- Tickets.
use Rattle.std.specs.Prelude.{ℕ}
use Rattle.uv_ids.specs.declared.id.Var.{Var}
use Rattle.uv_wake.specs.declared.tickets.Ticket.{Ticket}

abbrev pub ticket : Var → ℕ → Ticket
ticket v e = record { var = v; epoch = e }
