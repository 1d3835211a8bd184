-- The texts of answers, each with its line feed.
use Rattle.std.specs.Prelude.{ℕ, ◌==◌, List, [], ◌∷◌, ◌++◌, length, map, Option, Some, None, if◌then◌else◌, codes, decimal}
use Rattle.std.specs.List.{flat_map}
use Rattle.uv_ids.specs.declared.event.Event.{Event}
use Rattle.uv_script.specs.Program.{Program}
use Rattle.uv_script.specs.Text.{name_text, lines_text, script_text}
use Rattle.uv_text.specs.Recording.{step_line}
use Rattle.uv_asking.specs.declared.asking.Most.{Most}
use Rattle.uv_asking.specs.Asked.{Asked}

-- so many of something
unfoldable pub steps_text : ℕ → List ℕ
steps_text n = decimal n ++ (if n == 1 then codes " step" else codes " steps")

unfoldable pub states_text : ℕ → List ℕ
states_text n = decimal n ++ (if n == 1 then codes " state" else codes " states")

unfoldable pub calls_text : ℕ → List ℕ
calls_text n = decimal n ++ (if n == 1 then codes " call of " else codes " calls of ")

-- the session of a script and its steps, as a conversation reads it: the script, `begin`, and a line for each step
unfoldable pub session_text : Program → List Event → List ℕ
session_text p es = script_text p ++ codes "begin\n" ++ lines_text (map (step_line p.names) es)

-- these steps answer the question, and so many states were seen
unfoldable pub found_text : Program → List Event → ℕ → List ℕ
found_text p es states = codes "found in " ++ steps_text (length es) ++ codes ", " ++ states_text states ++ codes "\n" ++ session_text p es

-- a name's bound
unfoldable pub bound_text : List (List ℕ) → Most → List ℕ
bound_text names m = calls_text m.calls ++ name_text names m.name

-- a name's bound behind another one
unfoldable pub more_bound : List (List ℕ) → Most → List ℕ
more_bound names m = codes ", " ++ bound_text names m

abbrev pub more_bounds : List (List ℕ) → List Most → List ℕ
more_bounds names most = flat_map (more_bound names) most

-- the bounds that were given: the clock's, and then those of names in the order of their lines
abbrev pub within_text : List (List ℕ) → Option ℕ → List Most → List ℕ
within_text names (Some ms) most = codes " within clock " ++ decimal ms ++ more_bounds names most
within_text names None [] = []
within_text names None (m ∷ most) = codes " within " ++ bound_text names m ++ more_bounds names most

-- the clock's bound behind another one
abbrev pub clock_too : Option ℕ → List ℕ
clock_too (Some ms) = codes ", clock " ++ decimal ms
clock_too None = []

-- how many recorded events were moved at the most, and then the others
unfoldable pub moved_text : List (List ℕ) → ℕ → Option ℕ → List Most → List ℕ
moved_text names k clock most = codes " within " ++ decimal k ++ codes " moved" ++ clock_too clock ++ more_bounds names most

abbrev pub bounds_text : List (List ℕ) → Option ℕ → Option ℕ → List Most → List ℕ
bounds_text names (Some k) clock most = moved_text names k clock most
bounds_text names None clock most = within_text names clock most

-- no order of steps within the bounds answers the question, and so many states were seen
unfoldable pub never_text : Program → Asked → ℕ → List ℕ
never_text p a states = codes "never" ++ bounds_text p.names a.differ a.clock a.most ++ codes ": " ++ states_text states ++ codes ", every order\n"

-- so many ms late within these bounds
unfoldable pub late_text : Program → Asked → ℕ → List ℕ
late_text p a late = codes "latest " ++ decimal late ++ codes " ms" ++ bounds_text p.names a.differ a.clock a.most

-- so many steps and states, of every order
unfoldable pub every_text : ℕ → ℕ → List ℕ
every_text steps states = codes ", in " ++ steps_text steps ++ codes ": " ++ states_text states ++ codes ", every order\n"

-- in an order of these steps the timer is called so many ms late, and in none later; so many states were seen
unfoldable pub latest_text : Program → Asked → List Event → ℕ → ℕ → List ℕ
latest_text p a es late states = late_text p a late ++ every_text (length es) states ++ session_text p es

-- there are more states than were to be kept
unfoldable pub unsettled_text : ℕ → List ℕ
unsettled_text states = codes "not settled within " ++ states_text states ++ codes "\n"

-- so many ms late at least
unfoldable pub some_text : ℕ → List ℕ
some_text late = codes "latest " ++ decimal late ++ codes " ms at least"

-- so many steps, and more states than were to be kept
unfoldable pub more_text : ℕ → ℕ → List ℕ
more_text steps states = codes ", in " ++ steps_text steps ++ codes ": " ++ unsettled_text states

-- in an order of these steps it is called so many ms late; whether later isn't settled within so many states
unfoldable pub at_least_text : Program → List Event → ℕ → ℕ → List ℕ
at_least_text p es late states = some_text late ++ more_text (length es) states ++ session_text p es

-- memory was refused, and so many states were seen until then
unfoldable pub out_of_memory_text : ℕ → List ℕ
out_of_memory_text states = codes "not settled within " ++ states_text states ++ codes ": out of memory\n"

-- an order of steps has more of them than a session holds
abbrev pub too_deep_text : List ℕ
too_deep_text = codes "not settled within 16777216 steps\n"

-- the states may have no end
abbrev pub no_end_text : List ℕ
no_end_text = codes "no bound is given, and the script repeats: there may be no end of states\n"
