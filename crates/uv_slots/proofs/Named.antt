-- Names and what the slots hold under them, and how the changes of a state keep that they agree.
use Rattle.uv_slots.proofs.Names.{if◌then◌else◌, ◌≡◌, ℕ, zero, suc, ◌<◌, ◌+◌, ◌==◌, List, [], ◌∷◌, length, Bool, true, false, Option, Some, None, slice_get, slice_set, refl, ap, sym, ◌∙◌, arith, Id, Var, Slot, Slots, Content, Named, held, id_of, next_free, next_id, taken, taken_from, freed, same_id, option_and_then, cond_both, eqb-false, eqb-true, elements, ◌≤◌, option_map, Calls, with_held, times, name_in, vacant, vacancies, IsLoose}
use Rattle.uv_records.specs.Names as names

-- ---- names

abbrev pub id_named : List Named → Var → Option Id
id_named ns v = (names.named ns v.0).id

named_other : (ns : List Named) (v u : ℕ) (m : Named) → (u ≡ v → ⊥) → names.named (slice_set ns v m) u ≡ names.named ns u
named_other ns v u m d = grind (arith, elements)

named_counted : (ns : List Named) (v u : Var) (c : Calls) →
    id_named (slice_set ns v.0 (record (names.named ns v.0) { calls = c })) u ≡ id_named ns u
named_counted ns v u c = grind (arith, elements)

-- ---- slots

-- what is held under an id is called so
abbrev pub name_at : List (Slot Content) → Id → Option Var
name_at slots id = option_map name_in (held slots id)

-- how many ids a slot had, with that of its present use
abbrev pub uses : Option (Slot Content) → ℕ
uses None = 0
uses (Some slot) = if vacant slot.content == 0 then suc slot.generation else slot.generation

pub record IsThere (slots : List (Slot Content)) (id : Id) (x : Content) : Type 0 where
  pub slot : Slot Content
  pub there : slice_get slots id.slot ≡ Some slot
  pub generation : slot.generation ≡ id.generation
  pub content : slot.content ≡ Some x

pub is_there : (slots : List (Slot Content)) (id : Id) (x : Content) → held slots id ≡ Some x → IsThere slots id x
is_there slots id x e = grind arith

uses_turned : (slots : List (Slot Content)) (id : Id) (n : ℕ) (x y : Content) → held slots id ≡ Some x →
    uses (slice_get (with_held slots id y) n) ≡ uses (slice_get slots n)
uses_turned slots id n x y e = (let k = is_there slots id x e in grind (arith, elements))

-- ---- they agree

pub record Agree (count : ℕ) (ns : List Named) (a : Slots Content) : Type 0 where
  -- what is held has its own name bound to it, and no other one
  pub bound : (id : Id) (v : Var) → name_at a.slots id ≡ Some v → id_named ns v ≡ Some id
  pub alone : (v u : Var) (id : Id) → id_named ns v ≡ Some id → name_at a.slots id ≡ Some u → u ≡ v
  -- just the empty slots are free, each of them once
  pub free : (n : ℕ) → times a.free n ≡ vacancies (slice_get a.slots n)
  -- what a name is bound to was an id of its slot
  pub old : (v : Var) (id : Id) → id_named ns v ≡ Some id → id.generation < uses (slice_get a.slots id.slot)
  -- there are so many names at least
  pub many : count ≤ length ns

pub counted_agree : (count : ℕ) (ns : List Named) (a : Slots Content) (v : Var) (c : Calls) → Agree count ns a →
    Agree count (slice_set ns v.0 (record (names.named ns v.0) { calls = c })) a
counted_agree count ns a v c k = record {
  bound = λ id u e. named_counted ns v u c ∙ k.bound id u e;
  alone = λ w u id e f. k.alone w u id (sym (named_counted ns v w c) ∙ e) f;
  free = k.free;
  old = λ w id e. k.old w id (sym (named_counted ns v w c) ∙ e);
  many = grind (arith, elements, k.many);
}

pub turned_agree : (count : ℕ) (ns : List Named) (a : Slots Content) (id : Id) (x y : Content) → held a.slots id ≡ Some x → name_in y ≡ name_in x →
    Agree count ns a → Agree count ns (record a { slots = with_held a.slots id y })
turned_agree count ns a id x y e same k = record {
  bound = λ i u f. k.bound i u (sym (grind (arith, is_there, elements)) ∙ f);
  alone = λ w u i f g. k.alone w u i f (sym (grind (arith, is_there, elements)) ∙ g);
  free = λ n. k.free n ∙ sym (grind (arith, is_there, elements));
  old = λ w i f. (let l = k.old w i f in let m = uses_turned a.slots id i.slot x y e in omega (arith, l, m));
  many = k.many;
}

-- ---- a slot that is taken

-- something is held from now on under an id that nobody had
record Fills (a b : Slots Content) (id : Id) (x : Content) : Type 0 where
  pub new : uses (slice_get a.slots id.slot) ≡ id.generation
  pub name : (i : Id) → name_at b.slots i ≡ (if same_id i id then Some (name_in x) else name_at a.slots i)
  pub free : (n : ℕ) → times b.free n ≡ vacancies (slice_get b.slots n)
  pub uses_now : uses (slice_get b.slots id.slot) ≡ suc id.generation
  pub uses_other : (n : ℕ) → (n ≡ id.slot → ⊥) → uses (slice_get b.slots n) ≡ uses (slice_get a.slots n)

fills_first : (slots : List (Slot Content)) (n unused : ℕ) (ns : List ℕ) (id : Id) (x : Content) →
    ((m : ℕ) → times (n ∷ ns) m ≡ vacancies (slice_get slots m)) → next_id slots unused (n ∷ ns) ≡ Some id →
    Fills (record { slots = slots; free = n ∷ ns; unused = unused }) (record { slots = with_held slots id x; free = ns; unused = unused }) id x
fills_first slots n unused ns id x free e = by (slice_get slots n) refl e where
  by : (o : Option (Slot Content)) → slice_get slots n ≡ o → option_and_then (λ (slot : Slot Content). Some (id_of n slot)) o ≡ Some id →
      Fills (record { slots = slots; free = n ∷ ns; unused = unused }) (record { slots = with_held slots id x; free = ns; unused = unused }) id x
  by None there f = absurd (let g : ⊥ = cc f in g)
  by (Some slot) there f =
      let one : n ≡ id.slot = (let g : id_of n slot ≡ id = cc f in ap (λ (i : Id). i.slot) g) in
      let two : slot.generation ≡ id.generation = (let g : id_of n slot ≡ id = cc f in ap (λ (i : Id). i.generation) g) in
      let empty : slot.content ≡ None = grind (arith, free n) in
      record {
        new = grind arith;
        name = λ i. grind (arith, elements);
        free = λ m. grind (arith, elements, free m);
        uses_now = grind (arith, elements);
        uses_other = λ m d. grind (arith, elements);
      }

fills_next : (slots : List (Slot Content)) (unused : ℕ) (id : Id) (x : Content) →
    ((m : ℕ) → times [] m ≡ vacancies (slice_get slots m)) → next_id slots unused [] ≡ Some id →
    Fills (record { slots = slots; free = []; unused = unused }) (taken_from [] id x (record { slots = slots; free = []; unused = unused })) id x
fills_next slots zero id x free e = absurd (let f : ⊥ = cc e in f)
fills_next slots (suc unused) id x free e = grind (arith, elements)

fills : (a : Slots Content) (id : Id) (x : Content) → ((m : ℕ) → times a.free m ≡ vacancies (slice_get a.slots m)) → next_free a ≡ Some id →
    Fills a (taken id x a) id x
fills a id x free e = by a.free free e where
  by : (ns : List ℕ) → ((m : ℕ) → times ns m ≡ vacancies (slice_get a.slots m)) → next_id a.slots a.unused ns ≡ Some id →
      Fills (record a { free = ns }) (taken_from ns id x (record a { free = ns })) id x
  by [] all f = fills_next a.slots a.unused id x all f
  by (n ∷ ns) all f = fills_first a.slots n a.unused ns id x all f

-- a name is bound to it, which was bound to nothing that is held
pub made_agree : (count : ℕ) (ns : List Named) (a : Slots Content) (v : Var) (id : Id) (x : Content) → v.0 < count → name_in x ≡ v →
    IsLoose ns a v → next_free a ≡ Some id → Agree count ns a →
    Agree count (slice_set ns v.0 (record (names.named ns v.0) { id = Some id })) (taken id x a)
made_agree count ns a v id x less called loose next k = record {
  bound = λ i u e. bound i u (same_id i id) refl (sym (f.name i) ∙ e);
  alone = λ w u i e g. alone w u i (w.0 == v.0) refl e (sym (f.name i) ∙ g);
  free = f.free;
  old = λ w i e. old w i (w.0 == v.0) refl e;
  many = grind (arith, elements, k.many);
} where
  now : List Named
  now = slice_set ns v.0 (record (names.named ns v.0) { id = Some id })

  f : Fills a (taken id x a) id x
  f = fills a id x k.free next

  here : (w : Var) → w.0 ≡ v.0 → id_named now w ≡ Some id
  here w e = grind (arith, elements)

  other : (w : Var) → (w.0 ≡ v.0 → ⊥) → id_named now w ≡ id_named ns w
  other w d = ap (λ (m : Named). m.id) (named_other ns v.0 w.0 (record (names.named ns v.0) { id = Some id }) d)

  -- nothing that is held was called so
  unheld : (i : Id) (w : Var) → name_at a.slots i ≡ Some w → w.0 ≡ v.0 → ⊥
  unheld i w e same = grind arith

  bound : (i : Id) (u : Var) (b : Bool) → same_id i id ≡ b → (if b then Some (name_in x) else name_at a.slots i) ≡ Some u → id_named now u ≡ Some i
  bound i u true same e =
      let its : name_in x ≡ u = cc e in
      here u (ap (λ (w : Var). w.0) (sym its ∙ called)) ∙ ap Some (sym (grind arith))
  bound i u false same e = other u (unheld i u e) ∙ k.bound i u e

  -- no name was bound to the new id
  unnamed : (w : Var) → id_named ns w ≡ Some id → ⊥
  unnamed w e = (let l = k.old w id e in let m = f.new in omega (arith, l, m))

  alone : (w u : Var) (i : Id) (b : Bool) → (w.0 == v.0) ≡ b → id_named now w ≡ Some i →
      (if same_id i id then Some (name_in x) else name_at a.slots i) ≡ Some u → u ≡ w
  alone w u i true same e g = apart (same_id i id) refl g where
    is : w.0 ≡ v.0
    is = eqb-true w.0 v.0 same

    its : i ≡ id
    its = (let both : Some i ≡ Some id = sym e ∙ here w is in cc both)

    apart : (b : Bool) → same_id i id ≡ b → (if b then Some (name_in x) else name_at a.slots i) ≡ Some u → u ≡ w
    apart true one h = (let now_called : name_in x ≡ u = cc h in sym now_called ∙ called ∙ sym (grind arith))
    apart false one h = absurd (grind (arith, its))
  alone w u i false same e g = apart (same_id i id) refl g where
    named : id_named ns w ≡ Some i
    named = sym (other w (eqb-false w.0 v.0 same)) ∙ e

    apart : (b : Bool) → same_id i id ≡ b → (if b then Some (name_in x) else name_at a.slots i) ≡ Some u → u ≡ w
    apart true its h = absurd (unnamed w (named ∙ ap Some (grind arith)))
    apart false its h = k.alone w u i named h

  old : (w : Var) (i : Id) (b : Bool) → (w.0 == v.0) ≡ b → id_named now w ≡ Some i → i.generation < uses (slice_get (taken id x a).slots i.slot)
  old w i true same e =
      let both : Some i ≡ Some id = sym e ∙ here w (eqb-true w.0 v.0 same) in
      let its : i ≡ id = cc both in
      grind (arith, its, f.uses_now)
  old w i false same e =
      let named = sym (other w (eqb-false w.0 v.0 same)) ∙ e in
      let l = k.old w i named in grind (arith, l, f.new, f.uses_now, f.uses_other i.slot)

-- ---- a slot that is freed

pub freed_agree : (count last : ℕ) (ns : List Named) (a : Slots Content) (id : Id) (x : Content) → held a.slots id ≡ Some x →
    (id.generation ≡ last → ⊥) → Agree count ns a → Agree count ns (freed last id a)
freed_agree count last ns a id x e more k = cond_both (id.generation == last) _ _ (λ (b : Slots Content). Agree count ns b)
    (λ at. absurd (more (grind arith))) (λ less. record {
      bound = λ i v f. k.bound i v (before i v f);
      alone = λ v u i f g. k.alone v u i f (before i u g);
      free = λ n. free n;
      old = λ v i f. (let l = k.old v i f in let m = uses_freed i.slot in omega (arith, l, m));
      many = k.many;
    }) where
      there : IsThere a.slots id x
      there = is_there a.slots id x e

      now : List (Slot Content)
      now = slice_set a.slots id.slot (record { generation = id.generation + 1; content = None })

      before : (i : Id) (v : Var) → name_at now i ≡ Some v → name_at a.slots i ≡ Some v
      before i v f = grind (arith, elements, there)

      free : (n : ℕ) → times (id.slot ∷ a.free) n ≡ vacancies (slice_get now n)
      free n = grind (arith, elements, there, k.free n)

      uses_freed : (n : ℕ) → uses (slice_get now n) ≡ uses (slice_get a.slots n)
      uses_freed n = grind (arith, elements, there)
