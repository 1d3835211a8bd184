-- Where a search needs to know no more of a state than is told of it: no bound names the clock, no offer a worker, nothing is held to
-- a recording, and all numbers of ms are small.
use Rattle.std.specs.Prelude.{ℕ, ◌+◌, ◌^◌, ◌&&◌, not, Bool, true, false, List, [], ◌∷◌, length, Option, Some, None, is_none, max, nat_lt, if◌then◌else◌}
use Rattle.std.specs.List.{list_all}
use Rattle.uv_ids.specs.declared.event.Event.TheVariants as event
use Rattle.uv_script.specs.declared.op.Op.{Op}
use Rattle.uv_script.specs.declared.op.Op.TheVariants as op
use Rattle.uv_ids.specs.declared.id.Var.{Var}
use Rattle.uv_script.specs.Program.{Program, arena_size, op_name}
use Rattle.uv_names.specs.Counts.{call_end, script_end}
use Rattle.uv_asking.specs.Asked.{Asked}
use Rattle.uv_asking.specs.declared.asking.Most.{Most}
use Rattle.uv_asking.specs.declared.asking.Offer.{Offer}
use Rattle.uv_asking.specs.declared.asking.Offer.TheVariants.{Step, SendDuring, WaitFor}
use Rattle.uv_asking.specs.declared.asking.Offered.{Offered}
use Rattle.uv_asking.specs.declared.asking.Takes.{Takes}
use Rattle.uv_asking.specs.declared.asking.Question.{Question}
use Rattle.uv_asking.specs.declared.asking.Question.TheVariants as asks
use Rattle.uv_find.specs.Ops.{each_op}

-- so many ms are a long time: twelve days
abbrev pub LONG : ℕ
LONG = 2 ^ 30

-- an order has fewer steps than these, where a search forgets: behind one for each generation of a slot, slots run out
abbrev pub LONGEST : ℕ
LONGEST = 4294967294

abbrev pub is_small_op : Op → Bool
is_small_op (op.Start v timeout repeat) = nat_lt timeout LONG && nat_lt repeat LONG
is_small_op (op.SetRepeat v repeat) = nat_lt repeat LONG
is_small_op o = true

-- each op names a declared name, as those of each script that was read
abbrev pub is_declared : ℕ → Option Var → Bool
is_declared names None = true
is_declared names (Some v) = nat_lt v.0 names

abbrev pub declares : Program → Bool
declares p = each_op (λ (o : Op). is_declared (length p.callbacks) (op_name o)) p

abbrev pub is_small_offer : Offer → Bool
is_small_offer (Step (event.Tick ms)) = nat_lt ms LONG
is_small_offer (WaitFor ms) = nat_lt ms LONG
is_small_offer offer = true

abbrev pub are_small_offers : List Offered → Bool
are_small_offers offers = list_all (λ (offered : Offered). is_small_offer offered.offer) offers

abbrev pub are_small_takes : List Takes → Bool
are_small_takes takes = list_all (λ (t : Takes). nat_lt t.ms LONG) takes

-- an offer is bound neither to the request that a worker runs, nor to a worker by its number
abbrev pub is_aside : Offer → Bool
is_aside (SendDuring v job) = false
is_aside (Step (event.Take worker)) = false
is_aside (Step (event.Finish worker)) = false
is_aside offer = true

abbrev pub are_aside : List Offered → Bool
are_aside offers = list_all (λ (offered : Offered). is_aside offered.offer) offers

-- so are all offers of a search, but that its finishes are by their ranks
abbrev pub is_common : Offer → Bool
is_common (Step (event.Finish rank)) = true
is_common offer = is_aside offer

abbrev pub are_common : List Offered → Bool
are_common offers = list_all (λ (offered : Offered). is_common offered.offer) offers

-- nothing that is asked goes by more of a state than is told of it, and no number is large
abbrev pub asks_no_more : Program → Asked → Bool
asks_no_more p asked =
    not asked.full && is_none asked.clock && is_none asked.differ && nat_lt LONGEST (arena_size p).last_generation
    && each_op is_small_op p && are_small_offers asked.offers && are_aside asked.offers && are_small_takes asked.takes

-- a search needs to know no more of a state than is told of it
abbrev pub may_forget : Program → Asked → Bool
may_forget p asked = asks_no_more p asked && declares p

-- ---- the calls that a script or a question tells from later ones

abbrev pub most_end : List Most → ℕ
most_end [] = 0
most_end (m ∷ ms) = max (m.calls + 1) (most_end ms)

abbrev pub takes_end : List Takes → ℕ
takes_end [] = 0
takes_end (t ∷ ts) = max (call_end t.call) (takes_end ts)

abbrev pub question_end : Question → ℕ
question_end (asks.Call which name call) = call_end call
question_end question = 0

-- whether there was a call is told, of each name
abbrev pub calls_end : Program → Asked → ℕ
calls_end p asked = max 1 (max (script_end p) (max (most_end asked.most) (max (takes_end asked.takes) (question_end asked.question))))

-- up to which number calls are counted where a search forgets
abbrev pub forget_of : Program → Asked → Option ℕ
forget_of p asked = if may_forget p asked then Some (calls_end p asked) else None
