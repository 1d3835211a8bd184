-- An input has one answer.
use Rattle.uv_engine.proofs.Names.{◌≡◌, ℕ, List, [], ◌∷◌, ◌++◌, refl, ap, sym, subst, ◌∙◌, nat_lt, nat_le, cond_both, Event, Next, Moves, Refuses, lines_of, IsScript, IsBadLine, Program, some_reading, distinct_names, one_script, no_bad_line, one_bad_line, AreDistinct, Break, Shown, moved_back, moved_forward, BREAKS, Step, Quit, Asked, Do, Bad, Asks, asks, asks_one, Ended, IsAnswer, image_in, images_in, asked_after, Talks, input_ends, quits, goes_on, fresh_session, Ends, BadScript, talks, bad_line, no_begin, bad_input, HasAnswer, HasOneAnswer, Reply, Full, reply, reply_to, reply_after, may_follow, back_after, forward_after, add_after, break_back_after, has_step, PrintsFor, done_after, zero, suc, length, Option, Some, None, next, after}
use Rattle.uv_ids.specs.declared.event.Event.TheVariants as event
use Rattle.uv_engine.specs.Reply.{loop_after}
use Rattle.uv_engine.proofs.Begun.{begins_one, never_begins}
use Rattle.uv_engine.proofs.Starting.{some_out}

-- ---- the commands

-- what two answers to a line print is the same, and so are the images that follow
record Follows (a b : List ℕ) (xs ys : List (List ℕ)) : Type 0 where
  text : a ≡ b
  rest : xs ≡ ys

-- so it is where the images are the same from this line on
prints_one : (asked : Asked) (s : Shown) (a b : List ℕ) (xs ys : List (List ℕ)) → IsAnswer asked s a → IsAnswer asked s b →
    image_in asked a ++ xs ≡ image_in asked b ++ ys → Follows a b xs ys
prints_one (Do (Step e)) s a b xs ys h k z =
    cond_both (has_step s.program e) (Do (Step e)) Bad (λ (x : Asked). PrintsFor x s a → PrintsFor x s b → Follows a b xs ys)
    (λ _ p q. record { text = p ∙ sym q; rest = z }) (λ _ p q. record { text = p ∙ sym q; rest = z }) h k
prints_one each s a b xs ys h k z = search cond_both

-- ---- no command declares a name

step_program : (s : Shown) (e : Event) (n : Next) → (reply_after s (reply_to s e n)).program ≡ s.program
step_program s e (Moves t seen) = refl
step_program s e (Refuses why) = refl

reply_program : (s : Shown) (e : Event) → (reply_after s (reply s e)).program ≡ s.program
reply_program s e =
    let n = next s.program (after s.program s.standing) e in
    cond_both (nat_lt (length s.standing) s.limit) (reply_to s e n) Full (λ (r : Reply). (reply_after s r).program ≡ s.program)
    (λ _. step_program s e n) (λ _. refl)

loop_program : (n : ℕ) (s : Shown) → (loop_after n s).program ≡ s.program
unfolding loop_after
loop_program zero s = refl
loop_program (suc n) s =
    let r = reply s event.Loop in
    cond_both (may_follow r) (loop_after n (reply_after s r)) (reply_after s r) (λ (t : Shown). t.program ≡ s.program)
    (λ _. loop_program n (reply_after s r) ∙ reply_program s event.Loop) (λ _. reply_program s event.Loop)

back_program : (n : ℕ) (s : Shown) → (back_after n s).program ≡ s.program
back_program n s = cond_both (nat_le n (length s.standing)) (moved_back n s) s (λ (t : Shown). t.program ≡ s.program) (λ _. refl) (λ _. refl)

forward_program : (n : ℕ) (s : Shown) → (forward_after n s).program ≡ s.program
forward_program n s =
    cond_both (nat_le n (length s.taken_back)) (moved_forward n s) s (λ (t : Shown). t.program ≡ s.program) (λ _. refl) (λ _. refl)

add_program : (b : Break) (s : Shown) → (add_after b s).program ≡ s.program
add_program b s = cond_both (nat_lt (length s.breaks) BREAKS) (record s { breaks = s.breaks ++ b ∷ [] }) s (λ (t : Shown). t.program ≡ s.program)
    (λ _. refl) (λ _. refl)

break_back_program : (s : Shown) (o : Option ℕ) → (break_back_after s o).program ≡ s.program
break_back_program s (Some step) = refl
break_back_program s None = refl

same_program : (asked : Asked) (s : Shown) → (asked_after asked s).program ≡ s.program
same_program (Do (Step e)) s = cond_both (has_step s.program e) (Do (Step e)) Bad (λ (x : Asked). (done_after x s).program ≡ s.program)
    (λ _. reply_program s e) (λ _. refl)
same_program each s = search (loop_program, cond_both, reply_program, back_program, forward_program, add_program, break_back_program)

still_distinct : (asked : Asked) (s : Shown) → AreDistinct s.program.names → AreDistinct (asked_after asked s).program.names
still_distinct asked s distinct = subst (λ (p : Program). AreDistinct p.names) (sym (same_program asked s)) distinct

-- ---- the answers to lines

-- two answers to lines end the same, and are the same text where their images are
record Same {ls ms : List (List ℕ)} {s t : Shown} {a b : List ℕ} {x y : Ended} (h : Talks ls s a x) (k : Talks ms t b y) : Type 0 where
  end : x ≡ y
  text : images_in h ≡ images_in k → a ≡ b

same_asked : (s t : Shown) (l m : List ℕ) (a b : Asked) → s ≡ t → l ≡ m → AreDistinct s.program.names → Asks s.program.names l a
    → Asks t.program.names m b → a ≡ b
same_asked s t l m a b f e distinct q r = asks_one s.program.names l a b distinct q
    (subst (λ (z : Shown). Asks z.program.names l b) (sym f) (subst (λ (z : List ℕ). Asks t.program.names z b) (sym e) r))

talks_one : (ls ms : List (List ℕ)) (s t : Shown) (a b : List ℕ) (x y : Ended) → ls ≡ ms → s ≡ t → AreDistinct s.program.names
    → (h : Talks ls s a x) (k : Talks ms t b y) → Same h k
talks_one ls ms s t a b x y e f distinct input_ends input_ends = record { end = refl; text = λ z. refl }
talks_one ls ms s t a b x y e f distinct input_ends (quits r) = cc e
talks_one ls ms s t a b x y e f distinct input_ends (goes_on asked text rest r other h k) = cc e
talks_one ls ms s t a b x y e f distinct (quits q) input_ends = cc e
talks_one ls ms s t a b x y e f distinct (goes_on asked text rest q other h k) input_ends = cc e
talks_one ls ms s t a b x y e f distinct (quits q) (quits r) = record { end = refl; text = λ z. refl }
talks_one ls ms s t a b x y e f distinct (quits {line = l} q) (goes_on {line = m} asked text rest r other h k) =
    let line : l ≡ m = cc e in absurd (other (sym (same_asked s t l m (Do Quit) asked f line distinct q r)))
talks_one ls ms s t a b x y e f distinct (goes_on {line = l} asked text rest q other h k) (quits {line = m} r) =
    let line : l ≡ m = cc e in absurd (other (same_asked s t l m asked (Do Quit) f line distinct q r))
talks_one ls ms s t a b x y e f distinct (goes_on {line = l} {lines = ls'} asked text rest q other h k)
    (goes_on {line = m} {lines = ms'} asked' text' rest' r other' h' k') =
    let line : l ≡ m = cc e in
    let lines : ls' ≡ ms' = cc e in
    let same = same_asked s t l m asked asked' f line distinct q r in
    let answer = subst (λ (z : Shown). IsAnswer asked z text') (sym f) (subst (λ (z : Asked). IsAnswer z t text') (sym same) h') in
    let session = ap (λ (z : Asked). asked_after z s) same ∙ ap (asked_after asked') f in
    let more = talks_one ls' ms' (asked_after asked s) (asked_after asked' t) rest rest' x y lines session (still_distinct asked s distinct) k k' in
    record {
      end = more.end;
      text = λ z.
          let images = subst (λ (w : Asked). image_in asked text ++ images_in k ≡ image_in w text' ++ images_in k') (sym same) z in
          let first = prints_one asked s text text' (images_in k) (images_in k') h answer images in
          ap (λ (w : List ℕ). w ++ rest) first.text ∙ ap (λ (w : List ℕ). text' ++ w) (more.text first.rest);
    }

-- ---- all of it

end_of : (n : ℕ) (m : ℕ) → n ≡ m → BadScript n ≡ BadScript m
end_of n m e = ap BadScript e

pub one_answer : (input : List ℕ) → HasOneAnswer input
one_answer input a b x y (talks {end = f} script commands p begins is talk) (talks {end = g} script' commands' p' begins' is' talk') =
    let one = begins_one input input script script' commands commands' refl begins begins' in
    let same = one_script script p p' is (subst (λ (z : List ℕ). IsScript z p') (sym one.script) is') in
    let more = talks_one (lines_of commands) (lines_of commands') (fresh_session p) (fresh_session p') a b f g (ap lines_of one.commands)
    (ap fresh_session same) (distinct_names script p is) talk talk' in
    record { end = ap Ends more.end; text = more.text }
one_answer input a b x y (talks script commands p begins is talk) (bad_line {number = m} script' commands' begins' bad) =
    let one = begins_one input input script script' commands commands' refl begins begins' in
    absurd (no_bad_line script p m is (subst (λ (z : List ℕ). IsBadLine z m) (sym one.script) bad))
one_answer input a b x y (talks script commands p begins is talk) (no_begin p' never is') = search never_begins
one_answer input a b x y (talks script commands p begins is talk) (bad_input never bad) = absurd
    (never_begins input input script commands refl begins never)
one_answer input a b x y (bad_line script commands begins bad) (talks script' commands' p' begins' is' talk') =
    let one = begins_one input input script script' commands commands' refl begins begins' in
    absurd (no_bad_line script p' _ (subst (λ (z : List ℕ). IsScript z p') (sym one.script) is') bad)
one_answer input a b x y (bad_line {number = n} script commands begins bad) (bad_line {number = m} script' commands' begins' bad') =
    let one = begins_one input input script script' commands commands' refl begins begins' in
    record { end = end_of n m (one_bad_line script n m bad (subst (λ (z : List ℕ). IsBadLine z m) (sym one.script) bad')); text = λ _. refl }
one_answer input a b x y (bad_line script commands begins bad) (no_begin p' never is') = absurd
    (never_begins input input script commands refl begins never)
one_answer input a b x y (bad_line script commands begins bad) (bad_input never bad') = absurd
    (never_begins input input script commands refl begins never)
one_answer input a b x y (no_begin p never is) (talks script commands p' begins is' talk) = absurd
    (never_begins input input script commands refl begins never)
one_answer input a b x y (no_begin p never is) (bad_line script commands begins bad) = absurd
    (never_begins input input script commands refl begins never)
one_answer input a b x y (no_begin p never is) (no_begin p' never' is') = record { end = refl; text = λ _. refl }
one_answer input a b x y (no_begin p never is) (bad_input never' bad) = absurd (no_bad_line input p _ is bad)
one_answer input a b x y (bad_input never bad) (talks script commands p' begins is' talk) = absurd
    (never_begins input input script commands refl begins never)
one_answer input a b x y (bad_input never bad) (bad_line script commands begins bad') = absurd
    (never_begins input input script commands refl begins never)
one_answer input a b x y (bad_input never bad) (no_begin p' never' is') = absurd (no_bad_line input p' _ is' bad)
one_answer input a b x y (bad_input {number = n} never bad)
    (bad_input {number = m} never' bad') = record { end = end_of n m (one_bad_line input n m bad bad'); text = λ _. refl }

pub some_answer : (input : List ℕ) → HasAnswer input
some_answer input = some_out some_reading asks input

pub ruleset answers = (some_answer, one_answer)
