-- What each step of the loop finds in the memory: it follows from the steps that stand.
use Rattle.uv_loop.proofs.Names.{◌≡◌, ◌<◌, ◌≤◌, ◌^◌, ℕ, List, length, slice_get, true, Option, Result, Ok, Err, OnOk, is_ok, refl, sym, ap, ◌∙◌, subst, arith, Event, Seen, Program, arena_size, Place, CanStep, line_of, after_able, at_name, count_below, reached, Named, Record, Image, Held, named, count_of, StandsFor, IsReady, idle_loose, IsCourse, IsClear, names_is, place_is, start_is, time_is, IsSound}
use Rattle.uv_model.specs.After.{after}
use Rattle.uv_loop.proofs.Clear.{is_clear}
use Rattle.uv_loop.proofs.Lasts.{unwound_limits}
use Rattle.uv_loop.proofs.Courses.{course_stands}

-- what an answer says that is no fault
pub granted : {T E P : Type 0} (r : Result T E) → OnOk r P → is_ok r ≡ true → P
granted (Ok x) p e = p
granted (Err x) p e = cc

module _ (p : Program) (es : List Event) (seen : List (Option Seen)) (rs : List (Record Place)) (h : Held Place) (c : IsCourse p es seen rs h) where
  pub course_ready : IsSound h.image.arena → length h.image.arena.memory.row.items ≤ h.room → IsReady h
  course_ready sound room =
      let s = after p es in
      let stands : StandsFor h.image s = course_stands p es seen rs h c in
      let able : CanStep s = after_able p es (let few = c.few in omega (arith, few)) in
      record {
        room = room;
        starts = (let small = able.small.starts in let same = (start_is stands) in omega (arith, small, same));
        time = (let small = able.small.time in let same = (time_is stands) in omega (arith, small, same));
        line = subst (λ q. line_of q < 2 ^ 63) (sym (place_is stands)) able.small.line;
        calls = λ v k. subst (λ (ns : List Named). count_of k (named ns v).calls < 2 ^ 31) (sym (names_is stands))
            (count_below (2 ^ 31) k (named s.names v).calls
            (at_name (2 ^ 31) s.names v (slice_get s.names v) refl able.small.counts (omega arith)));
        loose = λ d r there. idle_loose h.image s stands (reached p es) c.fit d r there sound;
      }

  pub course_last : h.image.arena.last ≡ (arena_size p).last_generation
  course_last = sym (ap (λ (n : ℕ × ℕ). n.0) (unwound_limits rs h.image)) ∙ ap (λ (i : Image Place). i.arena.last) c.begins

  pub course_clear : IsClear h.image
  course_clear = is_clear h.image (after p es) (course_stands p es seen rs h c) (reached p es)
