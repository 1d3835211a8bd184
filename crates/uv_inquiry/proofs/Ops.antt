-- The ops of a script that are looked for.
use Rattle.uv_inquiry.proofs.Names.{◌≡◌, ℕ, zero, suc, inl, inr, ◌+◌, ◌<◌, ◌≤◌, ◌||◌, Bool, true, false, List, [], ◌∷◌, length, Option, Some, None, option_map, slice_get, refl, ap, sym, subst, ◌∙◌, arith, unwrap_or, cases_order, ltb-true, lt-ltb, both_ways, same_Some, none-some, slice_get_past, slice_get_within, Var, Callback, MainOp, CallbackLine, Program, Callbacks, no_callbacks, lines_in, main_op, op_at, HasOp, Repeats, starts, sets, is_wanted, is_main, in_lines, HasWanted, NoneAt, Op}
use Rattle.uv_ids.specs.declared.phase.Kind.TheVariants as kind
use Rattle.uv_ids.specs.declared.seen.Callback.TheVariants as callback
use Rattle.uv_ids.specs.declared.seen.Site.{Site}
use Rattle.uv_ids.specs.declared.seen.Site.TheVariants as site
use Rattle.uv_script.specs.declared.op.Op.TheVariants as op
use Rattle.uv_script.specs.declared.op.MainOp.TheVariants as main
use Rattle.uv_script.specs.Program.{lines_of}
use Rattle.uv_inquiry.specs.declared.repeats.Wanted.{Wanted}
use Rattle.uv_inquiry.specs.declared.repeats.Wanted.TheVariants as wanted
use Rattle.uv_inquiry.proofs.Steps.{neither, var_is, itself}

-- ---- where it stands

pub main_wanted : (p : Program) (w : Wanted) (line : ℕ) (m : MainOp) → slice_get p.main line ≡ Some m → is_main w m ≡ true → HasWanted p w
main_wanted p w line (main.Op o) e h = record { op = o; site = site.Main line; at = ap main_op e; is = h }
main_wanted p w line (main.Run mode) e h = absurd cc

main_within : (p : Program) (k : ℕ) (o : Op) → main_op (slice_get p.main k) ≡ Some o → k < length p.main
main_within p k o e = grind (arith, slice_get, main_op, length, slice_get_within, none-some)

pub ends_at : {A : Type 0} (xs : List A) (k : ℕ) → slice_get xs k ≡ None → length xs ≤ k
ends_at (x ∷ xs) (suc k) e = let rest = ends_at xs k e in omega (arith, rest)
ends_at each e1 e = grind arith

-- none at all, where none is before the end
pub none_in_main : (p : Program) (w : Wanted) (n : ℕ) → length p.main ≤ n → ((k : ℕ) → k < n → NoneAt p w (site.Main k)) → (k : ℕ) →
    NoneAt p w (site.Main k)
none_in_main p w n past before k o at = before k (omega (arith, past, main_within p k o at)) o at

record AnyAt (w : Wanted) (lines : List CallbackLine) : Type 0 where
  place : ℕ
  line : CallbackLine
  at : slice_get lines place ≡ Some line
  is : is_wanted w line.op ≡ true

any_at : (w : Wanted) (lines : List CallbackLine) → in_lines w lines ≡ true → AnyAt w lines
any_at w [] e = absurd cc
any_at w (l ∷ ls) e = by (is_wanted w l.op) refl e (any_at w ls) where
  by : (b : Bool) → is_wanted w l.op ≡ b → (b || in_lines w ls) ≡ true → (in_lines w ls ≡ true → AnyAt w ls) → AnyAt w (l ∷ ls)
  by true is e on = record { place = zero; line = l; at = refl; is = is }
  by false is e on = let r = on e in record { place = suc r.place; line = r.line; at = r.at; is = r.is }

none_at : (w : Wanted) (lines : List CallbackLine) → in_lines w lines ≡ false → (k : ℕ) (o : Op) →
    option_map (λ (l : CallbackLine). l.op) (slice_get lines k) ≡ Some o → is_wanted w o ≡ false
none_at w (l ∷ ls) e (suc k) o h = none_at w ls (neither (is_wanted w l.op) (in_lines w ls) e).1 k o h
none_at w each e e3 o h = grind arith

pub line_wanted : (p : Program) (w : Wanted) (k : Callback) (v : Var) (lines : List CallbackLine) → lines ≡ lines_in p k v →
    in_lines w lines ≡ true → HasWanted p w
line_wanted p w k v lines e h =
    let found = any_at w (lines_in p k v) (ap (in_lines w) (sym e) ∙ h) in
    record { op = found.line.op; site = site.In k v found.place; at = ap (option_map (λ (l : CallbackLine). l.op)) found.at; is = found.is }

pub none_wanted : (p : Program) (w : Wanted) (k : Callback) (v : Var) (lines : List CallbackLine) → lines ≡ lines_in p k v →
    in_lines w lines ≡ false → (line : ℕ) → NoneAt p w (site.In k v line)
none_wanted p w k v lines e h line o at = none_at w (lines_in p k v) (ap (in_lines w) (sym e) ∙ h) line o at

pub each_kind : (P : Callback → Type 0) → P callback.Handle → P callback.After → P callback.Close → (k : Callback) → P k
each_kind P h a c k = grind arith

pub nowhere : (p : Program) (w : Wanted) → ((line : ℕ) → NoneAt p w (site.Main line)) →
    ((k : Callback) (v : Var) (line : ℕ) → NoneAt p w (site.In k v line)) → HasWanted p w → ⊥
nowhere p w main callbacks h = grind arith

-- ---- what it is

pub has_idle : {p : Program} {v : Var} → HasWanted p (wanted.InitIdle v) → HasOp p (op.Init v kind.Idle)
has_idle {v = v} h = record { site = h.site; is = h.at ∙ ap Some (grind arith) }

pub has_start : {p : Program} {v : Var} → HasWanted p (wanted.StartWatcher v) → HasOp p (op.StartWatcher v)
has_start {v = v} h = record { site = h.site; is = h.at ∙ ap Some (grind arith) }

pub idle_wanted : {p : Program} {v : Var} → HasOp p (op.Init v kind.Idle) → HasWanted p (wanted.InitIdle v)
idle_wanted {v = v} h = record { op = op.Init v kind.Idle; site = h.site; at = h.is; is = itself v.0 }

pub start_wanted : {p : Program} {v : Var} → HasOp p (op.StartWatcher v) → HasWanted p (wanted.StartWatcher v)
start_wanted {v = v} h = record { op = op.StartWatcher v; site = h.site; at = h.is; is = itself v.0 }

pub repeat_wanted : {p : Program} → HasWanted p wanted.Repeat → Repeats p
repeat_wanted {p} h = by h.op h.at h.is where
  by : (o : Op) → op_at p h.site ≡ Some o → is_wanted wanted.Repeat o ≡ true → Repeats p
  by (op.Start v t r) e is = starts v t r (record { site = h.site; is = e }) (ltb-true 0 r is)
  by (op.SetRepeat v r) e is = sets v r (record { site = h.site; is = e }) (ltb-true 0 r is)
  by _ e is = absurd cc

pub not_repeated : {p : Program} → (HasWanted p wanted.Repeat → ⊥) → Repeats p → ⊥
not_repeated none (starts v t r h more) = none (record { op = op.Start v t r; site = h.site; at = h.is; is = lt-ltb 0 r more })
not_repeated none (sets v r h more) = none (record { op = op.SetRepeat v r; site = h.site; at = h.is; is = lt-ltb 0 r more })

pub must : {b : Bool} → (b ≡ false → ⊥) → b ≡ true
must h = grind arith

pub ruleset ops = (has_idle, has_start, idle_wanted, start_wanted, repeat_wanted, not_repeated, nowhere)
