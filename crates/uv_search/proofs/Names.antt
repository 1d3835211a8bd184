-- The names that proofs of this crate bring in.
pub use Rattle.std.proofs.Common.{Bool, IfOk, List, None, OnErr, Option, Result, Some, [], ap, ap₂, arith, below_more, cond, drop, false, get_or, inl, inr, is_some, length, length-append, map, nat_eq, position, refl, reverse, rules, slice_get, slice_index_or, slice_set, subst, suc, sym, take, true, true≢false, zero, ℕ, ◌*◌, ◌++◌, ◌+◌, ◌-◌, ◌/◌, ◌<◌, ◌==◌, ◌^◌, ◌||◌, ◌∙◌, ◌∷◌, ◌≡◌, ◌≤◌, ◌⊎◌}
pub use Rattle.std.proofs.lemmas.Grind.{common_steps, reverse_onto}
pub use Rattle.std.proofs.lemmas.List.{length-map, length-reverse, length-take-le, reverse-append, reverse-reverse, take_more}
pub use Rattle.std.proofs.lemmas.Option.{same_Some, slice_get-get_or}
pub use Rattle.std.specs.Cmp.Lexicographic.{bytes_decides, nat_list_eq_equiv, pointwise}
pub use Rattle.std.specs.List.{AllByRecursion, list_any, prefix_len}
pub use Rattle.uv_search.specs.Chains.{AreLinked, Leads, Linked, place_of}
pub use Rattle.uv_search.specs.Cuts.{IsCut, IsEntered, IsOnce, KeepsNumbers, joined}
pub use Rattle.uv_search.specs.Entering.{Enters}
pub use Rattle.uv_search.specs.Keys.{Has}
pub use Rattle.uv_search.specs.Settled.{AllLead, AreFew, AreKeys, AreReached, HasMore, HoldsNone, IsPassed, IsTooDeep, IsWay, Never, OneLeads}
pub use Rattle.uv_search.specs.Ways.{Answers, CanLead, CoversMoves, CoversStep, Goes, IsApart, IsBehind, IsCovered, IsMade, LeadPast, LeadTo, Meet, Tries}
pub use Rattle.uv_search.specs.declared.parts.Part.{Part}
pub use Rattle.uv_search.specs.declared.seen.Entered.{Entered}
pub use Rattle.uv_search.specs.declared.seen.Entered.TheVariants.{Full, New, There}
