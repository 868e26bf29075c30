-- A client's apps by rising number.
use Rattle.std.specs.Prelude.{ℕ, ℤ, pos, negsuc, ◌+◌, ◌-◌, ◌==◌, Bool, true, false, List, Option, None}
use Rattle.std.specs.Ordering.{int_eq}
use Rattle.kn_tables.specs.Lists.{first_where, without, in_place}
use Rattle.kn_edge_core.specs.declared.app.App.{App}
use Rattle.kn_edge_core.specs.declared.app.AppState.{AppState}
use Rattle.kn_edge_core.specs.declared.app.AppState.TheVariants.{Dialling, Open, Closing, Lingering}
use Rattle.kn_edge_core.specs.EntryLists.{changed_where}

abbrev pub is_app : ℕ → App → Bool
is_app number a = a.number == number

-- the app whose number a reply names; a negative number is none's
abbrev pub app_at : ℤ → List App → Option App
app_at (pos number) apps = first_where (is_app number) apps
app_at (negsuc number) apps = None

abbrev pub with_app : App → List App → List App
with_app a apps = in_place (λ x. x.number) a apps

abbrev pub without_app : ℕ → List App → List App
without_app number apps = without (is_app number) apps

-- an app whose tunnel is open, or that asked to close it
abbrev pub is_held : AppState → Bool
is_held Open = true
is_held Closing = true
is_held Dialling = false
is_held Lingering = false

-- an app that takes data of a connectID: of several, the first is meant
abbrev pub takes_data : AppState → ℤ → ℤ → Bool
takes_data Open own connect_id = int_eq own connect_id
takes_data Dialling own connect_id = false
takes_data Closing own connect_id = false
takes_data Lingering own connect_id = false

abbrev pub is_open_at : ℤ → App → Bool
is_open_at connect_id a = takes_data a.state a.connect_id connect_id

-- an app that a close of a connectID is for: of several, the first is meant
abbrev pub takes_close : AppState → ℤ → ℤ → Bool
takes_close Open own connect_id = int_eq own connect_id
takes_close Closing own connect_id = int_eq own connect_id
takes_close Dialling own connect_id = false
takes_close Lingering own connect_id = false

abbrev pub is_held_at : ℤ → App → Bool
is_held_at connect_id a = takes_close a.state a.connect_id connect_id

-- an app whose tunnel is open, that asked to close it, or whose tunnel the server closed with an error
abbrev pub opened : ℤ → App → App
opened connect_id a = record a { state = Open; connect_id = connect_id }

abbrev pub closing : App → App
closing a = record a { state = Closing }

abbrev pub lingering : List ℕ → App → App
lingering error a = record a { state = Lingering; error = error }

-- an app with more bytes, or with fewer bytes, that are still to be written
abbrev pub with_more : ℕ → App → App
with_more count a = record a { unwritten = a.unwritten + count }

abbrev pub with_fewer : ℕ → App → App
with_fewer count a = record a { unwritten = a.unwritten - count }

-- the apps, of which the one of a number is changed
abbrev pub app_changed : ℕ → (App → App) → List App → List App
app_changed number change apps = changed_where (is_app number) change apps
