-- Of which descriptions it is promised that what is answered tells them apart.
use Rattle.std.specs.Prelude.{ℕ, ◌<◌, List, ◌≡◌, length}
use Rattle.kinds.specs.Table.{sections, description_size, Accepted}

-- two accepted descriptions of section k whose bytes differ [G2, N6]
pub record Differ (k : ℕ) (d e : List ℕ) : Type 0 where
  pub known : k < sections
  pub old_whole : length d ≡ description_size k
  pub new_whole : length e ≡ description_size k
  pub old_accepted : Accepted k d
  pub new_accepted : Accepted k e
  pub differ : d ≡ e → ⊥
