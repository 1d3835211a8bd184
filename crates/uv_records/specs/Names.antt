-- The names of a loop: what each is bound to, and how often its callbacks were called.
use Rattle.std.specs.Prelude.{ℕ, ◌+◌, List, Option, None, unwrap_or, slice_get, slice_set}
use Rattle.uv_ids.specs.declared.id.Id.{Id}
use Rattle.uv_ids.specs.declared.seen.Callback.{Callback}
use Rattle.uv_ids.specs.declared.seen.Callback.TheVariants as callback
use Rattle.uv_records.specs.declared.named.Calls.{Calls}
use Rattle.uv_records.specs.declared.named.Named.{Named}

-- how often one of a name's callbacks was called
abbrev pub count_of : Callback → Calls → ℕ
count_of callback.Handle c = c.handle
count_of callback.After c = c.after
count_of callback.Close c = c.close

abbrev pub with_count : Callback → ℕ → Calls → Calls
with_count callback.Handle n c = record c { handle = n }
with_count callback.After n c = record c { after = n }
with_count callback.Close n c = record c { close = n }

-- one call more
abbrev pub counted : Callback → Calls → Calls
counted which c = with_count which (count_of which c + 1) c

-- a name that is bound to nothing and was never called
abbrev pub unbound : Named
unbound = record { id = None; calls = record { handle = 0; after = 0; close = 0 } }

-- what a name is bound to and how often it was called
abbrev pub named : List Named → ℕ → Named
named ns v = unwrap_or (slice_get ns v) unbound

-- a name is bound to this
abbrev pub binding : ℕ → Option Id → List Named → List Named
binding v id ns = slice_set ns v (record { id = id; calls = (named ns v).calls })

-- one of the callbacks of a name was called so often
abbrev pub calling : ℕ → Callback → ℕ → List Named → List Named
calling v which n ns = slice_set ns v (record { id = (named ns v).id; calls = with_count which n (named ns v).calls })
