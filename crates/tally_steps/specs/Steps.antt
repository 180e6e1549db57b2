-- A tally with one unit more, and with one map more; and that there is room for it in 64 bits.
use Rattle.std.specs.Prelude.{ℕ, ◌+◌, ◌-◌, ◌^◌, ◌≤◌, ◌<◌, List, get_or, set}
use Rattle.rules.specs.Sets.{Unknown, set_size}
use Rattle.rules.specs.Tree.{MapHash, MapProgArray}
use Rattle.rules_tally.specs.declared.Tally.{Tally}

-- one more at an index
abbrev pub one_more : List ℕ → ℕ → List ℕ
one_more counts i = set counts i (get_or counts i 0 + 1)

-- a unit of a kind from 0 to 10
unfoldable pub with_unit : Tally → ℕ → Tally
with_unit t kind = record {
  units = one_more t.units kind;
  maps = t.maps;
  events = t.events;
  statements = t.statements;
  max = t.max;
  methods = t.methods + set_size kind;
}

pub record UnitFits (t : Tally) (kind : ℕ) : Type 0 where
  pub known : kind ≤ Unknown
  pub counted : get_or t.units kind 0 + 1 < 2 ^ 64
  pub allowed : t.methods + set_size kind < 2 ^ 64

-- a map of a type from 1 to 5
unfoldable pub with_map : Tally → ℕ → ℕ → Tally
with_map t type max = record {
  units = t.units;
  maps = one_more t.maps (type - MapHash);
  events = t.events;
  statements = t.statements;
  max = t.max + max;
  methods = t.methods;
}

pub record MapFits (t : Tally) (type max : ℕ) : Type 0 where
  pub least : MapHash ≤ type
  pub most : type ≤ MapProgArray
  pub counted : get_or t.maps (type - MapHash) 0 + 1 < 2 ^ 64
  pub added : t.max + max < 2 ^ 64
