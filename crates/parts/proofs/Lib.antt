mod Every
mod Filled
mod SingleLaw
mod Sound
mod Kept
