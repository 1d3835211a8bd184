-- Behind the section of a kind another part begins: where it may with the next step, none of its list is yet to run.
use Rattle.std.specs.Prelude.{◌≡◌, []}
use Rattle.uv_records.specs.declared.lists.ListName.TheVariants as name
use Rattle.uv_records.specs.declared.lists.WatcherKind.{WatcherKind}
use Rattle.uv_records.specs.declared.lists.WatcherKind.TheVariants as watcher
use Rattle.uv_arena.specs.Image as arena
use Rattle.uv_arena.specs.Image.{members}
use Rattle.uv_work.specs.declared.content.Content.{Content}

abbrev pub IsClearAfter : WatcherKind → arena.Image Content → Type 0
IsClearAfter watcher.Idle i = members i name.PrepareYet ≡ []
IsClearAfter watcher.Prepare i = Unit {0}
IsClearAfter watcher.Check i = members i name.ClosingYet ≡ []
IsClearAfter watcher.Async i = members i name.CheckYet ≡ []
