-- What a slot holds has a name.
use Rattle.uv_ids.specs.declared.id.Var.{Var}
use Rattle.uv_work.specs.declared.content.Content.{Content}
use Rattle.uv_work.specs.declared.content.Content.TheVariants as content

-- the name of the handle or the request
abbrev pub name_in : Content → Var
name_in (content.Handle h) = h.name
name_in (content.Request r) = r.name
