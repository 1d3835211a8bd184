-- What always holds of a session in a live run: after a step that is no send, and after one send more.
use Rattle.uv_run.proofs.Names.{◌≡◌, ◌∙◌, ◌==◌, ℕ, ◌+◌, cond, List, length, slice_index, slice_set, sym, subst, count_by, ThreadLine, Program, PoolEvent, Shown, AreNamed, is_send, is_line, IsBound, SameSends, AreCounts}
use Rattle.uv_run.specs.Events.{events_by}
use Rattle.uv_run.proofs.Counting.{as_counted, one_counted}

pub kept_bound : (s t : Shown) (events after : List PoolEvent) (lines : List ThreadLine) (sends allowed : List ℕ)
    → IsBound s events lines sends allowed → t.program ≡ s.program → after ≡ events_by t.program t.standing → SameSends s t
    → IsBound t after lines sends allowed
kept_bound s t events after lines sends allowed before program are same = record {
  events_are = are;
  named = subst (λ (p : Program). AreNamed (length p.names) lines) (sym program) before.named;
  sends_are = subst (λ (p : Program). AreCounts (length p.names) (λ v. count_by (is_send v) t.standing) sends) (sym program)
      (as_counted (length s.program.names) _ _ sends before.sends_are same);
  allowed_are = subst (λ (p : Program). AreCounts (length p.names) (λ v. count_by (is_line v) lines) allowed) (sym program) before.allowed_are;
}

pub sent_bound : (s t : Shown) (events : List PoolEvent) (lines : List ThreadLine) (sends allowed : List ℕ) (name : ℕ)
    → IsBound s events lines sends allowed → t.program ≡ s.program → events_by t.program t.standing ≡ events_by s.program s.standing
    → ((v : ℕ) → count_by (is_send v) t.standing ≡ count_by (is_send v) s.standing + cond (name == v) 1 0)
    → IsBound t events lines (slice_set sends name (slice_index sends name + 1)) allowed
sent_bound s t events lines sends allowed name before program same more = record {
  events_are = before.events_are ∙ sym same;
  named = subst (λ (p : Program). AreNamed (length p.names) lines) (sym program) before.named;
  sends_are = subst (λ (p : Program). AreCounts (length p.names) (λ v. count_by (is_send v) t.standing) after) (sym program)
      (one_counted (length s.program.names) _ _ sends name before.sends_are more);
  allowed_are = subst (λ (p : Program). AreCounts (length p.names) (λ v. count_by (is_line v) lines) allowed) (sym program) before.allowed_are;
} where
  after : List ℕ
  after = slice_set sends name (slice_index sends name + 1)
