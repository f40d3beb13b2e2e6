-- The number so far is that of the bytes so far, in small letters.
use Rattle.std.proofs.Common.{◌≡◌, ◌<◌, take, fold}
use Rattle.model.specs.Values.{lowered}
use Rattle.labels.specs.Hash.{hash_step}
use Rattle.labels.proofs.hash.Given as goal

abbrev pub invariant-loop-byte : goal.invariant-loop-byte
invariant-loop-byte l = (l.hash < 65536) × (l.hash ≡ fold hash_step 0 (lowered (take l.byte-index l.label)))
