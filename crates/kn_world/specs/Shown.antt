-- What a world shows to its reader: of each app and each dial how far it came and what it sent and got, the
-- sizes of the tables, and whether all is quiet and closed.
use Rattle.std.specs.Prelude.{ℕ, Bool, List}
use Rattle.kn_world.specs.declared.event.AppPhase.{AppPhase}
use Rattle.kn_world.specs.declared.event.DialPhase.{DialPhase}

pub record AppShown : Type 0 where
  pub phase : AppPhase
  pub sent : List ℕ
  pub got : List ℕ
  pub error : List ℕ

pub record DialShown : Type 0 where
  pub link : ℕ
  pub app : ℕ
  pub phase : DialPhase
  pub sent : List ℕ
  pub got : List ℕ

pub record Shown : Type 0 where
  pub agents : ℕ
  pub clients : ℕ
  pub apps : List AppShown
  pub dials : List DialShown
  pub awaited : ℕ
  pub held : ℕ
  pub dialling : ℕ
  pub connections : ℕ
  pub quiet : Bool
  pub closed : Bool
