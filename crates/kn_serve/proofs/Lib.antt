mod WakeLemmas
mod FirstLemmas
mod ListenLemmas
mod ServeLemmas
mod TopLemmas
mod CountLemmas
