-- How far a message is dealt with, entry by entry, as a program that reads its fields has it. `steps hop` is what one entry does where the message's hop is
-- `hop`; s₀ is the state before, s the one now, and k how many entries were dealt with, counted in 32 bits.
use Rattle.std.specs.Prelude.{List, ◌++◌, map, ◌≡◌, ℕ, ◌%◌, ◌^◌, drop}
use Rattle.fields.specs.Field.{entries}
use Rattle.fields.specs.Entry.{FieldFrom}
use Rattle.update_theory.specs.Deal.{Entry, goes, comes, Turn, Dealt, deal_by}

module _ {S : Type 0} (steps : ℕ → S → Entry → Turn S) (s₀ : S) (field : List ℕ) where
  -- prefixes of a field withdrawn, up to a place of it; any rest of the message may follow
  pub record Going (k at : ℕ) (s : S) : Type 0 where
    pub from : FieldFrom field at
    pub many : ℕ
    pub told : k ≡ many % 2 ^ 32
    pub deals : (hop : ℕ) (rest : List Entry)
        → deal_by (steps hop) 0 s₀ (map goes (entries field) ++ rest) ≡ deal_by (steps hop) many s (map goes (entries (drop at field)) ++ rest)

  -- all of them
  pub record Gone (k : ℕ) (s : S) : Type 0 where
    pub many : ℕ
    pub told : k ≡ many % 2 ^ 32
    pub deals : (hop : ℕ) (rest : List Entry) → deal_by (steps hop) 0 s₀ (map goes (entries field) ++ rest) ≡ deal_by (steps hop) many s rest

  -- prefixes of a field announced with a hop, up to a place of it, after so many entries (m, of which `first` tells in 32 bits)
  pub record Coming (hop first k at : ℕ) (s : S) : Type 0 where
    pub rest : FieldFrom field at
    pub deals : (m : ℕ) → first ≡ m % 2 ^ 32 → (many : ℕ) × (k ≡ many % 2 ^ 32)
        × (deal_by (steps hop) m s₀ (map comes (entries field)) ≡ deal_by (steps hop) many s (map comes (entries (drop at field))))

  -- up to the one that stopped, or all
  pub record Came (hop first number k : ℕ) (s : S) : Type 0 where
    pub is : (m : ℕ) → first ≡ m % 2 ^ 32
        → (d : Dealt S) × (deal_by (steps hop) m s₀ (map comes (entries field)) ≡ d) × (d.stop ≡ number) × (k ≡ d.dealt % 2 ^ 32) × (d.state ≡ s)
