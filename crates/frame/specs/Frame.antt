-- A frame and its bytes on the wire: document 01, "Frames on the wire".
use Rattle.std.specs.Prelude.{ℕ, List, [], ◌∷◌, ◌++◌}
use Rattle.frame.specs.Stuffing.{stuff}
use Rattle.frame.specs.Checksum.{checksum}
use Rattle.frame.specs.Flags.{start_flag, stop_flag}
use Rattle.frame.specs.declared.Kind.{Kind}
use Rattle.frame.specs.declared.Kind.TheVariants.{Standard, Extended}
use Rattle.frame.specs.declared.Header.{Header}
use Rattle.frame.specs.declared.Header.TheVariants.{Plain, Addressed}

pub data Frame : Type 0 where
  standard : (contents : List ℕ) → Frame
  extended : (to from : ℕ) (contents : List ℕ) → Frame

-- The frame of a header and contents.
abbrev pub frame_of : Header → List ℕ → Frame
frame_of Plain c = standard c
frame_of (Addressed to from) c = extended to from c

unfoldable pub contents_of : Frame → List ℕ
contents_of (standard c) = c
contents_of (extended to from c) = c

abbrev pub frame_kind : Frame → Kind
frame_kind (standard c) = Standard
frame_kind (extended to from c) = Extended

-- The destination and the source, which only an extended frame has.
unfoldable pub addresses_of : Frame → List ℕ
addresses_of (standard c) = []
addresses_of (extended to from c) = to ∷ from ∷ []

-- What stands between the flags before it is stuffed.
unfoldable pub payload : Frame → List ℕ
payload f = addresses_of f ++ (contents_of f ++ (checksum (contents_of f) ∷ []))

-- The frame as it is sent.
unfoldable pub wire_of : Frame → List ℕ
wire_of f = start_flag (frame_kind f) ∷ stuff (payload f) ++ (stop_flag ∷ [])
