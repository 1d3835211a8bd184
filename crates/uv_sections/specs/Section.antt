-- What the section of timers finds, seen by each state that the memory stands for and that steps lead to.
use Rattle.std.specs.Prelude.{◌≡◌, None}
use Rattle.uv_model.specs.declared.place.Place.{Place}
use Rattle.uv_model.specs.Next.{first_due}
use Rattle.uv_model.specs.State.{front}
use Rattle.uv_memory.specs.Image.{Image}
use Rattle.uv_stands.specs.Doing.{OfEach}

-- no timer is due
abbrev pub CollectsNone : Image Place → Type 0
CollectsNone i = OfEach i (λ s. first_due s s.timers ≡ None)

-- none is set aside
abbrev pub FiresNone : Image Place → Type 0
FiresNone i = OfEach i (λ s. front s s.ready ≡ None)
