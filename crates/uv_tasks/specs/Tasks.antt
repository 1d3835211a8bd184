-- A state in which each request asks for the same work, and came to the same: whether it is done, and how, stays.
use Rattle.std.specs.Prelude.{List, ℕ, Option, map, option_map}
use Rattle.uv_ids.specs.declared.seen.Seen.{Seen}
use Rattle.uv_ids.specs.declared.seen.Seen.TheVariants as seen
use Rattle.uv_model.specs.State.{State}
use Rattle.uv_records.specs.declared.slot.Slot.{Slot}
use Rattle.uv_work.specs.Digests.{digest_of}
use Rattle.uv_work.specs.Tasks.{text_of}
use Rattle.uv_work.specs.declared.content.Content.{Content}
use Rattle.uv_work.specs.declared.content.Content.TheVariants as content
use Rattle.uv_work.specs.declared.outcome.Outcome.{Outcome}
use Rattle.uv_work.specs.declared.outcome.Outcome.TheVariants.{Open, Finished, Cancelled}
use Rattle.uv_script.specs.SameWork.{least_task}

abbrev pub least_digest : List ℕ
least_digest = digest_of least_task.rounds (text_of least_task)

abbrev pub same_outcome : Outcome → Outcome
same_outcome Open = Open
same_outcome (Finished digest) = Finished least_digest
same_outcome Cancelled = Cancelled

-- where there is one
abbrev pub same_digest : Option (List ℕ) → Option (List ℕ)
same_digest digest = option_map (λ (d : List ℕ). least_digest) digest

abbrev pub same_content : Content → Content
same_content (content.Handle h) = content.Handle h
same_content (content.Request r) = content.Request (record r { task = least_task; outcome = same_outcome r.outcome })

abbrev pub same_slot : Slot Content → Slot Content
same_slot slot = record slot { content = option_map same_content slot.content }

abbrev pub same_state : State → State
same_state s = record s { arena = record s.arena { slots = map same_slot s.arena.slots } }

-- a line tells a digest where an after callback begins
abbrev pub same_seen : Seen → Seen
same_seen (seen.After digest v id) = seen.After (same_digest digest) v id
same_seen line = line
