-- A timer that is due goes to the end of the ready list.
use Rattle.uv_timer.proofs.Names.{ℕ, [], ◌∷◌, ◌++◌, Option, option_and_then, sym, ap, ◌∙◌, subst, Id, HandleRecord, Ready, Image, members, IsPushed, same_count, Heap, Times, TimerUndo, collecting, timed, with_arena, timer_undone, CanUndoTimer, IsDue, IsRescheduled, IsCollected}

module _ {X : Type 0} (read : X → Option HandleRecord) (make : HandleRecord → X) where
  pub collected : (room : ℕ) (i k j : Image X) (n m : ℕ) (a b : Heap) (s t : Times) (d : Id) (h : HandleRecord) (u : TimerUndo)
      → IsDue read i a.array s.time d h → IsRescheduled read make room (timed i n a s) (timed k m b t) d (collecting h) u
      → IsPushed k j Ready d (members k Ready ++ d.slot ∷ [])
      → IsCollected read make room (timed i n a s) (timed j m b t) d (record { timer = u; pushed = record { slot = d.slot } })
  collected room i k j n m a b s t d h u due r p = record {
    from = h;
    is_due = due;
    handle = ap (option_and_then read) (p.slots.contents d) ∙ r.handles.handle;
    plain = p.slots.plain ∙ r.handles.plain;
    ready = p.lists ∙ ap (λ xs. xs ++ d.slot ∷ []) (r.handles.lists Ready);
    others = λ l ne. p.others l ne ∙ r.handles.lists l;
    listed = p.listed;
    contents = λ e ne. p.slots.contents e ∙ r.handles.contents e ne;
    kept = λ e ne. p.kept e ne ∙ r.handles.kept e ne;
    counts = r.handles.counts ∙ sym (same_count read make k j p.slots);
    heap = r.heap;
    timers = r.timers;
    times = r.times;
    undone = ap (λ z. timer_undone read make u (with_arena z (timed j m b t))) p.undone ∙ r.undone;
    can_undo = record {
      pushed = p.can_undo;
      timer = subst (λ z. CanUndoTimer read make room (with_arena z (timed j m b t)) u) (sym p.undone) r.can_undo;
    };
  }
