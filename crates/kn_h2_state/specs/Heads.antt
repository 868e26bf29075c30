-- Heads of requests and responses (RFC 9113, section 8.3).
use Rattle.std.specs.Prelude.{ℕ, ◌==◌, nat_le, nat_lt, Bool, false, not, ◌&&◌, ◌||◌, List, [], ◌∷◌, length, slice_index, count_by, bytes_eq, codes}
use Rattle.std.specs.List.{list_any, list_all}
use Rattle.kn_hpack.specs.Fields.{Field}

-- a pseudo header: its name begins with a colon
abbrev pub is_pseudo : Field → Bool
is_pseudo f = slice_index f.name 0 == 58

-- a name is empty or has a letter A to Z (section 8.2.1)
abbrev pub is_bad_name : Field → Bool
is_bad_name f = (length f.name == 0) || list_any (λ c. nat_le 65 c && nat_le c 90) f.name

-- how often a name stands in a head
abbrev pub times : List ℕ → List Field → ℕ
times name fields = count_by (λ f. bytes_eq f.name name) fields

-- a pseudo header comes after another header
unfoldable pub is_late : List Field → Bool
is_late [] = false
is_late (f ∷ fs) = (not (is_pseudo f) && list_any is_pseudo fs) || is_late fs

-- a pseudo header is none of these
abbrev pub is_unknown : List (List ℕ) → Field → Bool
is_unknown allowed f = is_pseudo f && not (list_any (bytes_eq f.name) allowed)

-- A head is malformed: a bad name, a pseudo header that is not allowed, one that comes twice, one that
-- is needed and missing, or one after another header.
unfoldable pub is_malformed : List (List ℕ) → List (List ℕ) → List Field → Bool
is_malformed allowed needed fields = list_any is_bad_name fields
    || list_any (is_unknown allowed) fields
    || list_any (λ name. nat_lt 1 (times name fields)) allowed
    || list_any (λ name. times name fields == 0) needed
    || is_late fields

-- the pseudo headers of a request (section 8.3.1)
abbrev pub request_names : List (List ℕ)
request_names = codes ":method" ∷ codes ":scheme" ∷ codes ":path" ∷ codes ":authority" ∷ []

abbrev pub needed_names : List (List ℕ)
needed_names = codes ":method" ∷ codes ":scheme" ∷ codes ":path" ∷ []

unfoldable pub is_malformed_request : List Field → Bool
is_malformed_request fields = is_malformed request_names needed_names fields

-- the pseudo header of a response (section 8.3.2)
abbrev pub response_names : List (List ℕ)
response_names = codes ":status" ∷ []

unfoldable pub is_malformed_response : List Field → Bool
is_malformed_response fields = is_malformed response_names response_names fields

-- a status from 100 to 199: three digits, the first of them 1
abbrev pub is_between : List ℕ → Bool
is_between value = (length value == 3) && (slice_index value 0 == 49) && list_all (λ c. nat_le 48 c && nat_le c 57) value

-- one of the fields is such a status
abbrev pub has_interim_status : List Field → Bool
has_interim_status fields = list_any (λ f. bytes_eq f.name (codes ":status") && is_between f.value) fields

-- an interim response (section 8.1): a head with such a status that is not malformed
unfoldable pub is_informational : List Field → Bool
is_informational fields = has_interim_status fields && not (is_malformed_response fields)
