-- Where no run stands at a place, a code with other lines there follows.
use Rattle.std.proofs.Common.{◌≡◌, refl, sym, ◌∙◌, arith}
use Rattle.c65_code.specs.Parts.{all_parts}
use Rattle.c65_opt_law_follow.proofs.Sim.{follows}
use Rattle.c65_opt_law_chains.proofs.Unused.{UnreachedFollow}

pub unreached_follow : UnreachedFollow
unreached_follow s A B f start main old m setup =
    follows s A B f start main old m (λ g q. all_parts) (λ q t. q ≡ start → ⊥) setup (λ test grows n w lt again t t2 sa sb shut r run c. absurd (r.knows refl (omega arith) (sym r.near.ended ∙ run) refl))
