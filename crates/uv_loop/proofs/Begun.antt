-- A step from where there is room for it: with its line and its record, or not at all.
use Rattle.uv_loop.proofs.Names.{◌≡◌, ◌∙◌, ◌<◌, ◌-◌, ◌++◌, [], ◌∷◌, ℕ, length, length-append, length-map, slice_get, Option, Some, None, Ok, Err, refl, arith, sym, ap, subst, Event, Seen, Program, Place, Answers, STEPS, refusal_of, Record, Held, Returns, OfEach, Course, IsCourse, Leads, Standing, AreSame, AreRoomier, IsOneMore, event_of, events_of, seen_by, Takes}
use Rattle.uv_ids.specs.declared.fault.Fault.TheVariants.{Memory}
use Rattle.uv_model.specs.Next.{next}
use Rattle.uv_loop.proofs.KeptLines.{get_last}
use Rattle.uv_loop.proofs.Courses.{course, course_moved, course_roomier, course_same, answers_ok, answers_wanting}
use Rattle.uv_loop.proofs.Told.{few_events, events_told, events_same}

abbrev line_or : Option (Option Seen) → Option Seen
line_or (Some line) = line
line_or None = None

-- no room is made on the heap
pub roomier : {s t : Standing} (h : Held Place) → AreSame s t → AreRoomier s t h h
roomier h same = record { steps = same; image = refl; room = omega arith }

module _ {p : Program} {s t : Standing} {h k : Held Place} {w : Course} {n : ℕ} (e : Event)
    (c : IsCourse p (events_of s.seen.items) s.seen.items s.trail.records h) (view : course p (events_of s.seen.items) s.trail.records h n ≡ w)
    (same : AreRoomier s t h k) where
  pub begun : IsCourse p (events_of t.seen.items) t.seen.items t.trail.records k
  begun = course_same p _ _ _ _ _ _ k (events_same same.steps.seen) same.steps.seen same.steps.records
      (course_roomier p _ _ _ h k same.image same.room c)

  -- there is no memory for it
  pub unfinished : length s.seen.items < STEPS → OfEach h.image (λ s. refusal_of (next p s e) ≡ None)
      → Answers STEPS w.program w.standing e (Err Memory) (events_of t.seen.items)
  unfinished few free = answers_wanting p _ _ _ h w view c e (few_events _ few) _ free (events_same same.steps.seen)

  module _ {u : Standing} (m : Held Place) {r : Record Place} {line : Option Seen} (few : length s.seen.items < STEPS)
      (leads : Leads p k.image m.image e line) (more : IsOneMore t u line r) where
    few_begun : length (events_of t.seen.items) < STEPS
    few_begun = few_events t.seen.items (subst (λ xs. length xs < STEPS) (sym same.steps.seen) few)

    told : events_of u.seen.items ≡ events_of t.seen.items ++ e ∷ []
    told = events_told e begun leads more.seen refl

    pub stands : Returns r k m → IsCourse p (events_of u.seen.items) u.seen.items u.trail.records m
    stands returns = course_moved p _ _ _ _ _ _ k m r e line told more.seen more.records few_begun begun returns leads

    pub answers : Answers STEPS w.program w.standing e (Ok (record { seen = line })) (events_of u.seen.items)
    answers =
        let view_begun : course p (events_of t.seen.items) t.trail.records k n ≡ w = (λ l. record {
          program = p;
          standing = events_of (same.steps.seen l);
          walk = record { image = same.image l; records = same.steps.records l };
          pieces = n;
        }) ∙ view in
        answers_ok p _ _ _ k w view_begun begun e few_begun m.image line _ leads told

    -- the line that lies at the end is this one
    last_is : (shown : Option Seen) → Returns r k m →
        slice_get (seen_by w.program (events_of u.seen.items)) (length (events_of u.seen.items) - 1) ≡ Some shown → Some line ≡ Some shown
    last_is shown returns is =
        let lines : seen_by w.program (events_of u.seen.items) ≡ t.seen.items ++ line ∷ [] =
        subst (λ q. seen_by q (events_of u.seen.items) ≡ t.seen.items ++ line ∷ []) (ap (λ z. z.program) view)
        (sym (stands returns).seen_is ∙ more.seen) in
        let at : length (events_of u.seen.items) - 1 ≡ length t.seen.items =
        omega (arith, length-map u.seen.items event_of, ap (λ xs. length xs) more.seen, length-append t.seen.items (line ∷ [])) in
        sym (get_last t.seen.items line) ∙ sym (ap (λ xs. slice_get xs (length t.seen.items)) lines)
        ∙ sym (ap (λ i. slice_get (seen_by w.program (events_of u.seen.items)) i) at) ∙ is

    -- it is answered with it
    pub takes : Returns r k m → Takes w.program w.standing e (Ok tt) (events_of u.seen.items)
    takes returns = (
      omega (arith, length-map u.seen.items event_of, ap (λ xs. length xs) more.seen, length-append t.seen.items (line ∷ [])),
      λ shown is. subst (λ l. Answers STEPS w.program w.standing e (Ok (record { seen = line_or l })) (events_of u.seen.items))
          (last_is shown returns is) answers,
    )
