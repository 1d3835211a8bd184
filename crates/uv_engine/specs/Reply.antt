-- What a session answers to a step, and what is printed of it.
use Rattle.std.specs.Prelude.{ℕ, zero, suc, ◌+◌, ◌-◌, List, [], ◌∷◌, ◌++◌, length, Bool, false, not, Option, Some, None, nat_lt, nat_le, if◌then◌else◌, codes, decimal}
use Rattle.std.specs.List.{flat_map}
use Rattle.uv_ids.specs.declared.event.Event.{Event}
use Rattle.uv_ids.specs.declared.event.Event.TheVariants as event
use Rattle.uv_ids.specs.declared.seen.Seen.{Seen}
use Rattle.uv_ids.specs.declared.fault.Why.{Why}
use Rattle.uv_ids.specs.Words.{why_word}
use Rattle.uv_script.specs.Program.{Program}
use Rattle.uv_model.specs.Next.{Next, Moves, Refuses, next}
use Rattle.uv_model.specs.After.{after, lines}
use Rattle.uv_session.specs.declared.breaks.Break.{Break}
use Rattle.uv_session.specs.Shown.{Shown, moved_back}
use Rattle.uv_session.specs.Breaks.{stops}
use Rattle.uv_session.specs.Moving.{moved_forward, BREAKS, stops_at}
use Rattle.uv_text.specs.Trace.{seen_text, appended_text, walk_part}
use Rattle.uv_text.specs.Parts.{in_parts}

-- what a session answers to an event
pub data Reply : Type 0 where
  -- the event is one more step, and appends a line or none
  Took : Shown → Option Seen → Reply
  Refused : Why → Reply
  -- there are as many steps as there may be
  Full : Reply

abbrev pub reply_to : Shown → Event → Next → Reply
reply_to s e (Moves t seen) = Took (record s { standing = s.standing ++ e ∷ []; taken_back = [] }) seen
reply_to s e (Refuses why) = Refused why

abbrev pub reply : Shown → Event → Reply
reply s e = if nat_lt (length s.standing) s.limit then reply_to s e (next s.program (after s.program s.standing) e) else Full

abbrev pub refused_text : Why → List ℕ
refused_text why = codes "refused " ++ why_word why ++ codes "\n"

-- so many steps stand where a break stopped a run, or was gone back to
abbrev pub break_text : ℕ → List ℕ
break_text length = codes "break at " ++ decimal length ++ codes "\n"

-- behind the line of a step that matches a break: how many steps stand
abbrev pub stop_text : Shown → Option Seen → List ℕ
stop_text t seen = if stops t.breaks seen then break_text (length t.standing) else []

abbrev pub reply_text : Program → Reply → List ℕ
reply_text p (Took t seen) = appended_text p seen ++ stop_text t seen
reply_text p (Refused why) = refused_text why
reply_text p Full = codes "refused steps\n"

-- the session after the reply
abbrev pub reply_after : Shown → Reply → Shown
reply_after s (Took t seen) = t
reply_after s (Refused why) = s
reply_after s Full = s

-- whether one more step may follow: the step was taken and matches no break
abbrev pub may_follow : Reply → Bool
may_follow (Took t seen) = not (stops t.breaks seen)
may_follow (Refused why) = false
may_follow Full = false

-- `loop n`: so many steps of the loop, up to the first that matches a break or is refused
unfoldable pub loop_text : ℕ → Shown → List ℕ
loop_text zero s = []
loop_text (suc n) s =
    reply_text s.program (reply s event.Loop)
    ++ (if may_follow (reply s event.Loop) then loop_text n (reply_after s (reply s event.Loop)) else [])

unfoldable pub loop_after : ℕ → Shown → Shown
loop_after zero s = s
loop_after (suc n) s =
    if may_follow (reply s event.Loop) then loop_after n (reply_after s (reply s event.Loop)) else reply_after s (reply s event.Loop)

-- so many steps stand after a move
abbrev pub at_text : ℕ → List ℕ
at_text length = codes "at " ++ decimal length ++ codes "\n"

-- `back n`: how many steps stand then, or that there are not so many
abbrev pub back_text : ℕ → Shown → List ℕ
back_text n s = if nat_le n (length s.standing) then at_text (length s.standing - n) else codes "refused range\n"

abbrev pub back_after : ℕ → Shown → Shown
back_after n s = if nat_le n (length s.standing) then moved_back n s else s

-- `forward n`: how many steps stand then, or that not so many were taken back
abbrev pub forward_text : ℕ → Shown → List ℕ
forward_text n s = if nat_le n (length s.taken_back) then at_text (length s.standing + n) else codes "refused range\n"

abbrev pub forward_after : ℕ → Shown → Shown
forward_after n s = if nat_le n (length s.taken_back) then moved_forward n s else s

-- `break ..`: one break more, an equal one too
abbrev pub add_text : Shown → List ℕ
add_text s = if nat_lt (length s.breaks) BREAKS then codes "break ok\n" else codes "refused limit\n"

abbrev pub add_after : Break → Shown → Shown
add_after b s = if nat_lt (length s.breaks) BREAKS then record s { breaks = s.breaks ++ b ∷ [] } else s

-- of the first so many steps the last that matches a break
abbrev pub last_match : Shown → ℕ → Option ℕ
last_match s zero = None
last_match s (suc n) = if stops_at s (suc n) then Some (suc n) else last_match s n

-- the last step that matches a break, except the present one
abbrev pub last_break : Shown → Option ℕ
last_break s = last_match s (length s.standing - 1)

-- `rback`: how many steps stand at that one, or that there is none
abbrev pub break_back_text : Option ℕ → List ℕ
break_back_text (Some step) = break_text step
break_back_text None = codes "refused range\n"

abbrev pub break_back_after : Shown → Option ℕ → Shown
break_back_after s (Some step) = moved_back (length s.standing - step) s
break_back_after s None = s

-- `trace`: the lines of the standing steps
abbrev pub trace_text : Shown → List ℕ
trace_text s = flat_map (seen_text s.program) (lines s.program s.standing)

-- `walk`: the same, each line with its step in front
abbrev pub walk_text : Shown → List ℕ
walk_text s = in_parts (walk_part s.program s.standing) (length s.standing)
