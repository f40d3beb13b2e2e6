-- What the version of a policy chooses (request 06): what acting as another carries, and whom a head names. Rules and reach take these as parameters.
use Rattle.std.specs.Prelude.{Bool, true, ℕ, eqb}
use Rattle.model.specs.Syntax.{Fact, flat, can_say}

-- "From policy version 2 the terminals agree that acting as a firm does not carry its can-say rights": in version 1 it does
abbrev pub carries_saying : ℕ → Bool
carries_saying version = eqb version 1

-- version 1: "v being any verb phrase, can say and can act as included"; version 2: "the can-act-as rule gives only facts whose verb phrase is not can say"
abbrev pub carries : {E : Type 0} → ℕ → Fact E → Bool
carries version (flat s v ps) = true
carries version (can_say s d f) = carries_saying version

-- version 1: "the subject of a flat head with verb 0" joins; version 2: "the reach leaves out subjects of verb 0", since no one has can-say rights by them
abbrev pub names_actors : ℕ → Bool
names_actors version = carries_saying version
