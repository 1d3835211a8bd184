-- The names that proofs of this crate bring in.
pub use Rattle.uv_script.proofs.ProofNames.{Bool, IfSome, List, None, Option, Some, Var, [], and_parts, ap, both_ways, bytes_eq, bytes_eq-Decides, cases_Bool, codes, cond_both, eq-eqb, eqb-true, false, fields_of, if◌then◌else◌, inl, inr, is_line, is_skipped, le-leb, leb-true, nat_le, none-some, none_left, not, option_and_then, option_map, refl, same_Some, subst, sym, true, ℕ, ◌&&◌, ◌++◌, ◌==◌, ◌||◌, ◌∙◌, ◌∷◌, ◌≡◌, ◌≢◌}
pub use Rattle.std.proofs.Common.{is_some}
pub use Rattle.uv_asking.specs.Grammar.{First, FirstTwo, Fits, FitsOne, Form, IsCame, IsNth, IsOffer, IsVar, IsWithin, Says, bad, bounds, callbacks, calls, came, cancel, code, finish, forms, io, name, name_but, nothing, nth, number, offer, offers, one, other_name, outside, questions, says, section, send, take, tick, wait, waited, which_word, word}
pub use Rattle.uv_asking.specs.Tests.{call_in, came_by, came_of, if_within, is_word, name_but_of, next, next_two, number_in, offer_of, other_of, reads, reads_one, said_by, said_of, which_named}
pub use Rattle.uv_asking.specs.declared.asking.Offer.{Offer}
pub use Rattle.uv_asking.specs.declared.asking.Offer.TheVariants.{SendDuring, Step, Take, Wait, WaitFor}
pub use Rattle.uv_asking.specs.declared.asking.Question.TheVariants.{Before, Behind}
pub use Rattle.uv_asking.specs.declared.asking.Which.{Which}
pub use Rattle.uv_ids.proofs.Words.{code_found, code_right, phase_found, phase_right, same}
pub use Rattle.uv_ids.specs.declared.event.Event.{Event}
pub use Rattle.uv_script.proofs.Checks.{is_line_decides, is_skipped_decides, number_of-complete, number_of-sound}
pub use Rattle.uv_script.specs.Checks.{number_of}
pub use Rattle.uv_script.specs.Reading.{place_of}
