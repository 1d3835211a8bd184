-- A command with one subcommand more.
use Rattle.std.proofs.Common.{◌≡◌, false, Result, Ok, Err, IfOk, ap₂, ◌∙◌}
use Rattle.clap.specs.Words.{App, Shape, AddsSubcommand, app_of, shape_of, with_subcommand}
use Rattle.clap.specs.declared.builder.command.Command.{Command}
use Rattle.clap.specs.declared.builder.command.Command.TheViews.{out-Command}

pub app_added : {E : Type 0} (old sub : Command) (r : Result Command E) (a : App) (s : Shape) → IfOk r (λ new. AddsSubcommand old sub new) →
    (out-Command sub).has_globals ≡ false → app_of old ≡ a → shape_of sub ≡ s → IfOk r (λ new. app_of new ≡ with_subcommand a s)
app_added old sub (Ok new) a s h local e f = h.shape local ∙ ap₂ with_subcommand e f
app_added old sub (Err why) a s h local e f = tt
