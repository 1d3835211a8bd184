-- One step more with its record, and one step less.
use Rattle.uv_loop.proofs.Names.{◌≡◌, ◌+◌, ◌-◌, ◌<◌, ◌≤◌, ℕ, suc, List, [], ◌∷◌, ◌++◌, length, length-append, take, get_or, Option, Some, None, Result, Ok, Err, refl, inl, inr, sym, ap, ◌∙◌, subst, arith, take_more, take_all, Event, Tick, Finish, Seen, Fault, Why, Program, arena_size, Outcome, Place, State, Next, Moves, Refuses, Job, RefusesResult, AnswersResult, job_run, Answers, goes_on, state_of, IsMove, refusal_of, STEPS, after-moves, seen_by-nil, seen_by-moves, seen_by-take, Record, Image, Held, unwind, unwound, DropsOne, CanUnwind, IsFit, unwound-push, begins_same, unwind_still, StandsFor, Returns, OfEach, reached, Course, StandFrom, IsCourse, Leads, first_image}
use Rattle.uv_ids.specs.declared.fault.Fault.TheVariants as fault
use Rattle.uv_model.specs.State as state
use Rattle.uv_model.specs.Next.{next}
use Rattle.uv_model.specs.After.{after}
use Rattle.uv_loop.proofs.Lasts.{unwound_limits}

-- one record a step
stand_length : (p : Program) (s : State) (room : ℕ) (i : Image Place) (rs : List (Record Place)) (es : List Event) → StandFrom p s room i rs es
    → length rs ≡ length es
stand_length p s room i [] [] h = refl
stand_length p s room i [] (e ∷ es) h = absurd h
stand_length p s room i (r ∷ rs) [] h = absurd h
stand_length p s room i (r ∷ rs) (e ∷ es) h = ap suc (stand_length p (state_of s (next p s e)) room i rs es h.3)

-- the memory stands for the state after the steps
stand_end : (p : Program) (s : State) (room : ℕ) (i : Image Place) (rs : List (Record Place)) (es : List Event) → StandFrom p s room i rs es
    → StandsFor i (goes_on p s es)
stand_end p s room i [] [] h = h
stand_end p s room i [] (e ∷ es) h = absurd h
stand_end p s room i (r ∷ rs) [] h = absurd h
stand_end p s room i (r ∷ rs) (e ∷ es) h = stand_end p (state_of s (next p s e)) room i rs es h.3

stand_push : (p : Program) (s : State) (room : ℕ) (i j : Image Place) (rs : List (Record Place)) (es : List Event) (r : Record Place) (e : Event)
    → StandFrom p s room i rs es → unwind r j ≡ i → CanUnwind room r j → IsMove (next p (goes_on p s es) e)
    → StandsFor j (state_of (goes_on p s es) (next p (goes_on p s es) e)) → StandFrom p s room j (rs ++ r ∷ []) (es ++ e ∷ [])
stand_push p s room i j [] [] r e h back can move stands = (subst (λ x. StandsFor x s) (sym back) h, can, move, stands)
stand_push p s room i j [] (y ∷ es) r e h back can move stands = absurd h
stand_push p s room i j (x ∷ rs) [] r e h back can move stands = absurd h
stand_push p s room i j (x ∷ rs) (y ∷ es) r e h back can move stands =
    let same : unwound (rs ++ r ∷ []) j ≡ unwound rs i = unwound-push rs r j ∙ ap (unwound rs) back in (
      subst (λ k. StandsFor (unwind x k) s) (sym same) h.0,
      subst (λ k. CanUnwind room x k) (sym same) h.1,
      h.2,
      stand_push p (state_of s (next p s y)) room i j rs es r e h.3 back can move stands,
    )

stand_pop : (p : Program) (s : State) (room : ℕ) (i : Image Place) (rs : List (Record Place)) (es : List Event) (r : Record Place) (e : Event)
    → length rs ≡ length es → StandFrom p s room i (rs ++ r ∷ []) (es ++ e ∷ []) → CanUnwind room r i × StandFrom p s room (unwind r i) rs es
stand_pop p s room i [] [] r e l h = (h.1, h.0)
stand_pop p s room i [] (y ∷ es) r e l h = absurd (omega (arith, l))
stand_pop p s room i (x ∷ rs) [] r e l h = absurd (omega (arith, l))
stand_pop p s room i (x ∷ rs) (y ∷ es) r e l h =
    let same : unwound (rs ++ r ∷ []) i ≡ unwound rs (unwind r i) = unwound-push rs r i in
    let m : length rs ≡ length es = omega (arith, l) in
    let rest = stand_pop p (state_of s (next p s y)) room i rs es r e m h.3 in (
      rest.0,
      (
        subst (λ k. StandsFor (unwind x k) s) same h.0,
        subst (λ k. CanUnwind room x k) same h.1,
        h.2,
        rest.1,
      ),
    )

-- it stands where there is more room
stand_still : (p : Program) (s : State) (room more : ℕ) (i : Image Place) (rs : List (Record Place)) (es : List Event) → room ≤ more
    → StandFrom p s room i rs es → StandFrom p s more i rs es
stand_still p s room more i [] [] grown h = h
stand_still p s room more i [] (e ∷ es) grown h = absurd h
stand_still p s room more i (r ∷ rs) [] grown h = absurd h
stand_still p s room more i (r ∷ rs) (e ∷ es) grown h = (
  h.0,
  unwind_still room more grown r (unwound rs i) h.1,
  h.2,
  stand_still p (state_of s (next p s e)) room more i rs es grown h.3,
)

-- ---- what a loop keeps

pub course_begins : (p : Program) (h : Held Place) → IsFit h.image → h.image ≡ first_image p
    → StandsFor (first_image p) (state.fresh p) → IsCourse p [] [] [] h
course_begins p h fit is stands = record {
  few = omega arith;
  seen_is = sym (seen_by-nil p);
  fit = fit;
  begins = is;
  stand = subst (λ i. StandsFor i (state.fresh p)) (sym is) stands;
}

pub course_stands : (p : Program) (es : List Event) (seen : List (Option Seen)) (rs : List (Record Place)) (h : Held Place) → IsCourse p es seen rs h
    → StandsFor h.image (after p es)
unfolding after
course_stands p es seen rs h c = stand_end p (state.fresh p) h.room h.image rs es c.stand

pub course_length : (p : Program) (es : List Event) (seen : List (Option Seen)) (rs : List (Record Place)) (h : Held Place) → IsCourse p es seen rs h
    → length rs ≡ length es
course_length p es seen rs h c = stand_length p (state.fresh p) h.room h.image rs es c.stand

-- the heap has more room, and nothing else changed
pub course_roomier : (p : Program) (es : List Event) (seen : List (Option Seen)) (rs : List (Record Place)) (h k : Held Place)
    → k.image ≡ h.image → h.room ≤ k.room → IsCourse p es seen rs h → IsCourse p es seen rs k
course_roomier p es seen rs h k same grown c = record {
  few = c.few;
  seen_is = c.seen_is;
  fit = subst (λ i. IsFit i) (sym same) c.fit;
  begins = ap (λ i. unwound rs i) same ∙ c.begins;
  stand = subst (λ i. StandFrom p (state.fresh p) k.room i rs es) (sym same)
      (stand_still p (state.fresh p) h.room k.room h.image rs es grown c.stand);
}

is_move : (n : Next) (t : State) (line : Option Seen) → n ≡ Moves t line → IsMove n
is_move n t line h = rw h tt

-- a step is refused so, or taken, by why it is refused
refuses_by : (n : Next) (why : Why) → refusal_of n ≡ Some why → n ≡ Refuses why
refuses_by (Moves t line) why e = cc
refuses_by (Refuses w) why e = let same : w ≡ why = cc e in ap (λ x. Refuses x) same

moves_by : (n : Next) → refusal_of n ≡ None → IsMove n
moves_by (Moves t line) e = tt
moves_by (Refuses w) e = cc

-- an accepted step, with its line and its record
pub course_added : (p : Program) (es : List Event) (seen : List (Option Seen)) (rs : List (Record Place)) (h k : Held Place) (r : Record Place)
    (e : Event) (t : State) (line : Option Seen) → length es < STEPS → IsCourse p es seen rs h → Returns r h k
    → next p (after p es) e ≡ Moves t line → StandsFor k.image t → IsCourse p (es ++ e ∷ []) (seen ++ line ∷ []) (rs ++ r ∷ []) k
unfolding after
course_added p es seen rs h k r e t line few c d moves stands =
    let s = goes_on p (state.fresh p) es in
    let before : StandFrom p (state.fresh p) k.room h.image rs es = subst (λ n. StandFrom p (state.fresh p) n h.image rs es) (sym d.room) c.stand in
    record {
      few = omega (arith, few, length-append es (e ∷ []));
      seen_is = sym (seen_by-moves p es e t line moves ∙ ap (λ ls. ls ++ line ∷ []) (sym c.seen_is));
      fit = d.fit;
      begins = begins_same rs r h.image k.image d.back ∙ c.begins;
      stand = stand_push p (state.fresh p) k.room h.image k.image rs es r e before d.back d.can (is_move _ t line moves)
          (subst (λ (n : Next). StandsFor k.image (state_of s n)) (sym moves) stands);
    }

last_apart : (es : List Event) (n : ℕ) → length es ≡ n + 1 → es ≡ take n es ++ get_or es n (Tick 0) ∷ []
last_apart es n long =
    let all : take (n + 1) es ≡ es = take_all (n + 1) es (omega (arith, long)) in
    sym all ∙ take_more es n (Tick 0) (omega (arith, long))

-- the last step and its record go
pub course_dropped : (p : Program) (es : List Event) (seen : List (Option Seen)) (rs qs : List (Record Place)) (h : Held Place) (r : Record Place)
    → rs ≡ qs ++ r ∷ [] → IsCourse p es seen rs h
    → CanUnwind h.room r h.image
    × IsCourse p (take (length qs) es) (take (length qs) seen) qs (record { image = unwind r h.image; room = h.room })
    × (length es ≡ length qs + 1)
course_dropped p es seen rs qs h r split c =
    let n = length qs in
    let long : length es ≡ n + 1 =
    (let a = course_length p es seen rs h c in let b = ap (λ xs. length xs) split in omega (arith, a, b, length-append qs (r ∷ []))) in
    let e = get_or es n (Tick 0) in
    let apart = last_apart es n long in
    let from : StandFrom p (state.fresh p) h.room h.image (qs ++ r ∷ []) (take n es ++ e ∷ []) =
    subst (λ xs. StandFrom p (state.fresh p) h.room h.image (qs ++ r ∷ []) xs) apart
    (subst (λ xs. StandFrom p (state.fresh p) h.room h.image xs es) split c.stand) in
    let short : length (take n es) ≡ n = (let a = ap (λ xs. length xs) apart in omega (arith, a, long, length-append (take n es) (e ∷ []))) in
    let rest = stand_pop p (state.fresh p) h.room h.image qs (take n es) r e (sym short) from in (
      rest.0,
      record {
        few = omega (arith, c.few, short, long);
        seen_is = ap (take n) c.seen_is ∙ sym (seen_by-take p n es);
        fit = rest.0.fit;
        begins = sym (unwound-push qs r h.image) ∙ ap (λ xs. unwound xs h.image) (sym split) ∙ c.begins;
        stand = rest.1;
      },
      long,
    )

-- the same steps, held elsewhere
pub course_same : (p : Program) (es fs : List Event) (seen lines : List (Option Seen)) (rs qs : List (Record Place)) (h : Held Place)
    → fs ≡ es → lines ≡ seen → qs ≡ rs → IsCourse p es seen rs h → IsCourse p fs lines qs h
course_same p es fs seen lines rs qs h a b d c =
    subst (λ xs. IsCourse p xs lines qs h) (sym a) (subst (λ xs. IsCourse p es xs qs h) (sym b) (subst (λ xs. IsCourse p es seen xs h) (sym d) c))

-- the loop of a script that has taken no step
pub course_new : (p : Program) (es : List Event) (seen : List (Option Seen)) (rs : List (Record Place)) (h : Held Place) → es ≡ [] → seen ≡ []
    → rs ≡ [] → IsFit h.image → h.image ≡ first_image p
    → StandsFor (first_image p) (state.fresh p) → IsCourse p es seen rs h
course_new p es seen rs h a b d fit is stands = course_same p [] es [] seen [] rs h a b d (course_begins p h fit is stands)

pub course_moved : (p : Program) (es fs : List Event) (seen lines : List (Option Seen)) (rs qs : List (Record Place)) (h k : Held Place)
    (r : Record Place) (e : Event) (line : Option Seen) → fs ≡ es ++ e ∷ [] → lines ≡ seen ++ line ∷ [] → qs ≡ rs ++ r ∷ []
    → length es < STEPS → IsCourse p es seen rs h → Returns r h k → Leads p h.image k.image e line → IsCourse p fs lines qs k
course_moved p es fs seen lines rs qs h k r e line a b d few c recorded leads =
    let t = leads (after p es) (course_stands p es seen rs h c) (reached p es) in
    course_same p (es ++ e ∷ []) fs (seen ++ line ∷ []) lines (rs ++ r ∷ []) qs k a b d
    (course_added p es seen rs h k r e t.0 line few c recorded t.1 t.2)

-- the last step went
pub course_shorter : (p : Program) (es fs : List Event) (seen lines : List (Option Seen)) (rs qs : List (Record Place)) (h k : Held Place)
    (r : Record Place) → rs ≡ qs ++ r ∷ [] → fs ≡ take (length qs) es → lines ≡ take (length qs) seen → k.image ≡ unwind r h.image → k.room ≡ h.room
    → IsCourse p es seen rs h → IsCourse p fs lines qs k
course_shorter p es fs seen lines rs qs h k r split a b image room c =
    let short : IsCourse p fs lines qs (record { image = unwind r h.image; room = h.room }) =
    course_same p (take (length qs) es) fs (take (length qs) seen) lines qs qs _ a b refl (course_dropped p es seen rs qs h r split c).1 in
    subst (λ (z : Held Place). IsCourse p fs lines qs z) (sym (λ l. record { image = image l; room = room l })) short

-- ---- what callers see

abbrev pub course : Program → List Event → List (Record Place) → Held Place → ℕ → Course
course p es rs h n = record { program = p; standing = es; walk = record { image = h.image; records = rs }; pieces = n }

module _ (p : Program) (es : List Event) (seen : List (Option Seen)) (rs : List (Record Place)) (h : Held Place) (w : Course)
    {n : ℕ} (same : course p es rs h n ≡ w) (c : IsCourse p es seen rs h) where
  pub seen_stands : StandsFor w.walk.image (after w.program w.standing)
  seen_stands = subst (λ (x : Course). StandsFor x.walk.image (after x.program x.standing)) same (course_stands p es seen rs h c)

  pub seen_begins : unwound w.walk.records w.walk.image ≡ first_image w.program
  seen_begins = subst (λ (x : Course). unwound x.walk.records x.walk.image ≡ first_image x.program) same c.begins

  -- the arena's last generation is the script's
  pub seen_last : w.walk.image.arena.last ≡ (arena_size w.program).last_generation
  seen_last = subst (λ (x : Course). x.walk.image.arena.last ≡ (arena_size x.program).last_generation) same
      (sym (ap (λ (n : ℕ × ℕ). n.0) (unwound_limits rs h.image)) ∙ ap (λ (i : Image Place). i.arena.last) c.begins)

  -- what holds of each state that the memory stands for holds of the state after the steps
  pub asked : (Q : State → Type 0) → ((s : State) → StandsFor h.image s → Q s) → Q (after w.program w.standing)
  asked Q f = subst (λ (x : Course). Q (after x.program x.standing)) same (f (after p es) (course_stands p es seen rs h c))

  -- the same, where it holds of those that steps lead to
  pub asked_each : (Q : State → Type 0) → OfEach h.image Q → Q (after w.program w.standing)
  asked_each Q f = subst (λ (x : Course). Q (after x.program x.standing)) same (f (after p es) (course_stands p es seen rs h c) (reached p es))

  pub seen_length : length w.walk.records ≡ length w.standing
  seen_length = subst (λ (x : Course). length x.walk.records ≡ length x.standing) same (course_length p es seen rs h c)

  -- a finish whose result is refused
  pub result_refused : (k : ℕ) (job : Job) (why : Why) → length es < STEPS → ((s : State) → StandsFor h.image s → RefusesResult p s k job why)
      → AnswersResult STEPS w.program w.standing k job (Err (fault.Refused why)) w.standing
  result_refused k job why few refuses =
      subst (λ (x : Course). AnswersResult STEPS x.program x.standing k job (Err (fault.Refused why)) x.standing) same
      (few, refl, refuses (after p es) (course_stands p es seen rs h c))

  module _ (e : Event) (few : length es < STEPS) where
    -- an accepted event
    pub answers_ok : (i : Image Place) (line : Option Seen) (fs : List Event) → Leads p h.image i e line → fs ≡ es ++ e ∷ []
        → Answers STEPS w.program w.standing e (Ok (record { seen = line })) fs
    answers_ok i line fs leads is =
        let t = leads (after p es) (course_stands p es seen rs h c) (reached p es) in
        let there : after p fs ≡ t.0 = ap (after p) is ∙ after-moves p es e t.0 line t.1 in
        subst (λ (x : Course). Answers STEPS x.program x.standing e (Ok (record { seen = line })) fs) same
        (few, is, t.1 ∙ ap (λ z. Moves z line) (sym there))

    -- there is no memory for it
    pub answers_wanting : (fs : List Event) → OfEach h.image (λ s. refusal_of (next p s e) ≡ None) → fs ≡ es
        → Answers STEPS w.program w.standing e (Err fault.Memory) fs
    answers_wanting fs free is =
        subst (λ (x : Course). Answers STEPS x.program x.standing e (Err fault.Memory) fs) same
        (few, is, moves_by _ (free (after p es) (course_stands p es seen rs h c) (reached p es)))

    -- it is refused
    pub answers_refusing : (fs : List Event) (why : Why) → OfEach h.image (λ s. refusal_of (next p s e) ≡ Some why) → fs ≡ es
        → Answers STEPS w.program w.standing e (Err (fault.Refused why)) fs
    answers_refusing fs why refuses is =
        subst (λ (x : Course). Answers STEPS x.program x.standing e (Err (fault.Refused why)) fs) same
        (few, is, refuses_by _ why (refuses (after p es) (course_stands p es seen rs h c) (reached p es)))

  pub drops : (fs : List Event) (qs : List (Record Place)) (r : Record Place) (j : Image Place) (m : ℕ) → rs ≡ qs ++ r ∷ []
      → fs ≡ take (length qs) es → j ≡ unwind r h.image → m ≡ n
      → (0 < length w.standing) × (fs ≡ take (length w.standing - 1) w.standing) × DropsOne w.walk (record { image = j; records = qs })
      × (m ≡ w.pieces)
  drops fs qs r j m split is back kept =
      let long = (course_dropped p es seen rs qs h r split c).2 in
      let less : length qs ≡ length es - 1 = omega (arith, long) in
      let some : 0 < length es = omega (arith, long) in
      subst (λ (x : Course). (0 < length x.standing) × (fs ≡ take (length x.standing - 1) x.standing)
      × DropsOne x.walk (record { image = j; records = qs }) × (m ≡ x.pieces)) same
      (some, is ∙ ap (λ k. take k es) less, record { dropped = r; records = split; back = back }, kept)
