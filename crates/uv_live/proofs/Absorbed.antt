-- One name more is absorbed.
use Rattle.uv_live.proofs.Names.{◌≡◌, ◌∙◌, inl, ℕ, ◌+◌, ◌<◌, Bool, List, [], ◌∷◌, ◌++◌, Some, take, length, get_or, slice_get, map, filter, refl, sym, ap, subst, Contains, take_more, map-append, filter-append, Var, Ticket, LoopView, AllCarried, Carries, after_absorb, Course, ThreadLine, Absorbs, AbsorbsEach, sent_by, is_by, names_by}
use Rattle.uv_live.proofs.Shares.{one_more}

-- an absorb leaves what was carried
pub absorbs : (l l' : LoopView) (v : Var) (took : Bool) → l' ≡ after_absorb l v took → Carries l v took l' → Absorbs l l'
absorbs l l' v took is carries = record {
  tickets = ap (λ (k : LoopView). k.tickets) is;
  splits = ap (λ (k : LoopView). k.splits) is;
  joins = ap (λ (k : LoopView). k.joins) is;
  carried = λ t h. (carries t).1 (inl h);
}

still_carried : (l l' : LoopView) (v : Var) → Absorbs l l' → AllCarried l v → AllCarried l' v
still_carried l l' v a h = λ t is in_list. a.carried t (h t is (subst (λ (ts : List Ticket). Contains ts t) a.tickets in_list))

pub absorbs_both : (l l' l'' : LoopView) → Absorbs l l' → Absorbs l' l'' → Absorbs l l''
absorbs_both l l' l'' a b = record {
  tickets = b.tickets ∙ a.tickets;
  splits = b.splits ∙ a.splits;
  joins = b.joins ∙ a.joins;
  carried = λ t h. b.carried t (a.carried t h);
}

-- no ticket of the first n names waits
abbrev pub CarriedBelow : LoopView → List Var → ℕ → Type 0
CarriedBelow l names n = (k : ℕ) → k < n → (v : Var) → slice_get names k ≡ Some v → AllCarried l v

pub carried_more : (l l' : LoopView) (names : List Var) (n : ℕ) (name : Var) → slice_get names n ≡ Some name → Absorbs l l' → AllCarried l' name
    → CarriedBelow l names n → CarriedBelow l' names (n + 1)
carried_more l l' names n name at a here before =
    one_more (λ (k : ℕ). (v : Var) → slice_get names k ≡ Some v → AllCarried l' v) n
    (λ k low v there. still_carried l l' v a (before k low v there))
    (λ v there. let some : Some name ≡ Some v = sym at ∙ there in let same : name ≡ v = cc in subst (AllCarried l') same here)

each_both : (xs ys : List Var) (l m l' : LoopView) (s t u : Course) → AbsorbsEach xs l s m t → AbsorbsEach ys m t l' u
    → AbsorbsEach (xs ++ ys) l s l' u
each_both [] ys l m l' s t u h k =
    subst (λ (x : LoopView). AbsorbsEach ys x s l' u) h.0 (subst (λ (x : Course). AbsorbsEach ys m x l' u) h.1 k)
each_both (v ∷ vs) ys l m l' s t u h k = (h.0, each_both vs ys (after_absorb l v h.0) m l' (sent_by h.0 v s) t u h.1 k)

pub each_more : (names : List Var) (n : ℕ) (d : Var) (l m l' : LoopView) (s t u : Course) → n < length names → AbsorbsEach (take n names) l s m t
    → AbsorbsEach (get_or names n d ∷ []) m t l' u → AbsorbsEach (take (n + 1) names) l s l' u
each_more names n d l m l' s t u within h k =
    subst (λ (xs : List Var). AbsorbsEach xs l s l' u) (sym (take_more names n d within))
    (each_both (take n names) (get_or names n d ∷ []) l m l' s t u h k)

-- one line more of a thread's
pub names_more : (thread : ℕ) (lines : List ThreadLine) (n : ℕ) (d : ThreadLine) → n < length lines
    → names_by thread (take (n + 1) lines) ≡ names_by thread (take n lines) ++ names_by thread (get_or lines n d ∷ [])
names_more thread lines n d within =
    ap (names_by thread) (take_more lines n d within)
    ∙ (ap (map (λ (l : ThreadLine). l.name)) (filter-append (is_by thread) (take n lines) (get_or lines n d ∷ []))
    ∙ map-append (λ (l : ThreadLine). l.name) (filter (is_by thread) (take n lines)) (filter (is_by thread) (get_or lines n d ∷ [])))
