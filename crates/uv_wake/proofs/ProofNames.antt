-- The names that proofs of this crate bring in.
pub use Rattle.std.proofs.Common.{Bool, List, None, Option, Some, [], ap, arith, get_or, inl, inr, length, lit<, refl, replicate, rules, set, subst, suc, sym, true, zero, ℕ, ⊎_elim, ◌%◌, ◌*◌, ◌++◌, ◌+◌, ◌/◌, ◌<◌, ◌^◌, ◌∙◌, ◌∷◌, ◌≡◌, ◌≢◌, ◌≤◌, ◌⊎◌}
pub use Rattle.std.proofs.lemmas.Bool.{eq-eqb, eqb-false, eqb-true, ne_eqb}
pub use Rattle.std.proofs.lemmas.List.{get_or-replicate, get_or-set_other, get_or-set_same, get_or_past, length-replicate, length-set, set-get_or}
pub use Rattle.std.proofs.lemmas.List.Elements.{Contains-append_cases, Contains-append_left, Contains-append_right, Contains-push, Contains-push_cases}
pub use Rattle.std.specs.List.{Contains}
pub use Rattle.atomic_table.proofs.Lists.{at_longer, at_set, at_snoc, set_again, set_else}
pub use Rattle.atomic_table.specs.Table.{Allows, Joins, Me, Splits, State, keeps, opening, step}
pub use Rattle.uv_ids.specs.declared.id.Var.{Var}
pub use Rattle.uv_wake.specs.Passes.{IsLoops, IsSends}
pub use Rattle.uv_wake.specs.Rule.{EachStands, Has, IsWord, Kept, NameKept, NoneIsAhead, at_first, list_of, sender_count, senders_in}
pub use Rattle.uv_wake.specs.Seats.{AllCarried, Carried, CarriedBy, Carries, HasEach, LoopAt, after_absorb, after_look, after_send, count_of, starting}
pub use Rattle.uv_wake.specs.Steps.{Looked, absorbed, is_odd, joined, learned, looked, loop_of, sender_of, sent, split_left, split_right}
pub use Rattle.uv_wake.specs.Tickets.{ticket}
pub use Rattle.uv_wake.specs.declared.tickets.Ticket.{Ticket}
pub use Rattle.uv_wake.specs.declared.views.LoopView.{LoopView}
pub use Rattle.uv_wake.specs.declared.views.SenderView.{SenderView}
pub use Rattle.uv_wake.specs.declared.views.View.{View}
pub use Rattle.uv_wake.specs.declared.views.View.TheVariants.{Joined, Loop, Sender}
pub use lib.Bits.{bit_and, bit_or}
pub use lib.ListN.{get_elem?}
pub use mathlib.Core.Logic.{dite}
pub use mathlib.Core.Option.{none, some, some-injective, some-ne-none}
pub use native.Mathlib.Decide.{dec_le, ℕ_discrete}
